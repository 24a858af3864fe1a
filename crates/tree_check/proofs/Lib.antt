pub mod BoxesLaws
