mod PairLaws
mod SourceLaws
