mod DifferLaws
mod RunLaws
