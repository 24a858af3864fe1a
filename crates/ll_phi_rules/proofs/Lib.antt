mod AgreeLaws
mod ColumnLaws
mod CountLaws
