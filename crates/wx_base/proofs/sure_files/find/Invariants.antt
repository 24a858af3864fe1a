use Rattle.std.proofs.Common.{◌≡◌, drop}
use Rattle.wx_base.specs.Shelf.{first_with, pairs_of}
use Rattle.wx_base.proofs.sure_files.find.Given as goal

-- what is left has the pair
abbrev pub invariant-loop-file : goal.invariant-loop-file
invariant-loop-file l = first_with (pairs_of (drop l.file-index l.files)) l.name ≡ first_with (pairs_of l.files) l.name
