-- Where the program meets the process: no words, and the status then.
use Rattle.std.specs.Prelude.{◌≡◌, ◌≢◌, ℕ}
use Rattle.std.specs.declared.io.ErrorKind.{ErrorKind}
use Rattle.std.specs.declared.io.ErrorKind.TheVariants.{OutOfMemory}
use Rattle.wcet_core.specs.declared.edge.NoWords.{NoWords}
use Rattle.wcet_core.specs.declared.edge.NoWords.TheVariants as causes

-- why there are no words where the runtime answered an error of this kind
pub record IsCause (kind : ErrorKind) (cause : NoWords) : Type 0 where
  pub no_memory : kind ≡ OutOfMemory → cause ≡ causes.NoMemory
  pub refused : kind ≢ OutOfMemory → cause ≡ causes.Refused

abbrev pub no_words_status : NoWords → ℕ
no_words_status causes.NoMemory = 6
no_words_status causes.Refused = 7
