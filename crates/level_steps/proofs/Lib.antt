pub mod AlikeLaws
pub mod MoreLaws
pub mod PointLaws
pub mod RaiseLaws
pub mod WholeLaws
