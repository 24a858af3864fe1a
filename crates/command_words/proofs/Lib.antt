mod ArgumentLaws
mod NumberLaws
