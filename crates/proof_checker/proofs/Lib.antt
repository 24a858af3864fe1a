mod ComesLaws
mod FedLaws
mod KeptLaws
mod LineLaws
mod OnceLaws
mod OneVerdictLaws
mod ProofLaws
mod SpelledLaws
