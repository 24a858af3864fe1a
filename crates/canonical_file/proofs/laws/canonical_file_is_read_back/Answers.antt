use Rattle.canonical_file.proofs.FileLaws.{file_back}
use Rattle.canonical_file.proofs.laws.canonical_file_is_read_back.Goals as goal

pub returns : goal.returns
returns c = file_back
