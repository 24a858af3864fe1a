pub mod DifferentLaws
mod NameTableLaws
mod RepeatLaws
