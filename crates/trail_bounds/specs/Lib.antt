pub mod TrailBounds
