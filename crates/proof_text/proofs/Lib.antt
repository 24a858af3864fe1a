mod DigitLaws
mod ReadingLaws
mod WordLaws
