mod LookupLaws
mod ReadingLaws
