mod DifferLaws
mod RiseLaws
