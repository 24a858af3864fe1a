mod CaseLaws
mod FirstLaws
mod ValueLaws
