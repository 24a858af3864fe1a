use Rattle.std.proofs.Common.{◌≡◌, ◌≤◌, ℕ, List, Result, Ok, sym, subst}
use Rattle.wx_base.specs.Files.{FilesView, Contents, LeavesFetch}
use Rattle.wx_base.specs.declared.files.FetchError.{FetchError}
use Rattle.ll_tree.specs.declared.func.Func.{Func}
use Rattle.ll_reader.specs.FileSpells.{FileSpells}
use Rattle.ll_verifier.specs.Rules.{Rules}
use Rattle.command_words.specs.Words.{JobWords, Asks, words_of}
use Rattle.wcet_core.specs.Accepted.{StandsUnder, IsAccepted}
use Rattle.wcet_core.specs.Promises.{IsAfterFile}
use Rattle.wcet_core.specs.declared.limits.TheConstants.{FILE_LIMIT, COSTS_LIMIT}
use Rattle.wcet_core.proofs.SaysLaws.{keeps_after, asked_after, unfetched_file, unfetched_costs, refused_table, said_work}
use Rattle.wcet_core.proofs.answer.answer.Goals as goal

-- the moment after the file
after_file : {T : Type 0} (job : JobWords) (old middle : FilesView) (result : Result T FetchError) (text : T) → result ≡ Ok text → LeavesFetch old middle job.file result → old.faults ≤ middle.faults → old.taken ≤ middle.taken → IsAfterFile job old middle
after_file job old middle result text is leaves faults taken = record {
  keeps = keeps_after old middle job.file result leaves faults taken;
  asked = asked_after result text old middle job.file is leaves;
}

accepted : (words : List (List ℕ)) (contents : Contents) (job : JobWords) (func : Func) (bytes text : List ℕ) → Asks words job → text ≡ bytes → StandsUnder contents job.file FILE_LIMIT bytes → FileSpells text job.function func → Rules func → IsAccepted words contents job func
accepted words contents job func bytes text asks same stands spells rules = record {
  spelled = record { asks = asks; text = text; stands = subst (StandsUnder contents job.file FILE_LIMIT) (sym same) stands; spells = spells };
  rules = rules;
}

-- the table's bytes, as they are told before the call
table_stands : (job : JobWords) (old middle : FilesView) (bytes text : List ℕ) → IsAfterFile job old middle → text ≡ bytes → StandsUnder middle.contents job.costs COSTS_LIMIT bytes → StandsUnder old.contents job.costs COSTS_LIMIT text
table_stands job old middle bytes text after same stands =
    subst (λ (contents : Contents). StandsUnder contents job.costs COSTS_LIMIT text) after.keeps.contents
    (subst (StandsUnder middle.contents job.costs COSTS_LIMIT) (sym same) stands)

pub returns-in-Err-clause-says : goal.returns-in-Err-clause-says
returns-in-Err-clause-says g c =
    rw c.unfetched.ensures (unfetched_file c.args.words.now (words_of c.in-Some.job) c.in-Some.ensures (g.F.Files.view c.args.files.now) (g.F.Files.view c.fetch.new.self)
    c.in-Err.error c.fetch.result c.in-Err.is c.fetch.ensures.leaves c.fetch.ensures.longer c.fetch.ensures.cause.rose)

pub returns-in-Err-fetch-clause-says : goal.returns-in-Err-fetch-clause-says
returns-in-Err-fetch-clause-says g c =
    let job = words_of c.in-Some.job in
    let old = g.F.Files.view c.args.files.now in
    let middle = g.F.Files.view c.fetch.new.self in
    let new = g.F.Files.view c.fetch-2.new.self in
    let after = after_file job old middle c.fetch.result c.in-Ok.text c.in-Ok.is c.fetch.ensures.leaves c.fetch.ensures.cause.later c.fetch.ensures.taken in
    let is = accepted c.args.words.now old.contents job c.in-Ok-sound_in.sound.func c.in-Ok.text.items c.deref.result.now c.in-Some.ensures c.deref.ensures.value (record { told = c.in-Ok.ensures.told; within = c.in-Ok.ensures.within }) c.in-Ok-sound_in.ensures.spells c.in-Ok-sound_in.ensures.sound in
    rw c.unfetched-in-Err-fetch.ensures (unfetched_costs c.args.words.now job old middle new after c.in-Ok-sound_in.sound.func is
    c.in-Err-fetch.error c.fetch-2.result c.in-Err-fetch.is c.fetch-2.ensures.leaves c.fetch-2.ensures.longer c.fetch-2.ensures.cause.rose)

pub returns-in-Err-costs_in-clause-says : goal.returns-in-Err-costs_in-clause-says
returns-in-Err-costs_in-clause-says g c =
    let job = words_of c.in-Some.job in
    let old = g.F.Files.view c.args.files.now in
    let middle = g.F.Files.view c.fetch.new.self in
    let new = g.F.Files.view c.fetch-2.new.self in
    let after = after_file job old middle c.fetch.result c.in-Ok.text c.in-Ok.is c.fetch.ensures.leaves c.fetch.ensures.cause.later c.fetch.ensures.taken in
    let is = accepted c.args.words.now old.contents job c.in-Ok-sound_in.sound.func c.in-Ok.text.items c.deref.result.now c.in-Some.ensures c.deref.ensures.value (record { told = c.in-Ok.ensures.told; within = c.in-Ok.ensures.within }) c.in-Ok-sound_in.ensures.spells c.in-Ok-sound_in.ensures.sound in
    let stands = table_stands job old middle c.in-Ok-fetch.table.items c.deref-2.result.now after c.deref-2.ensures.value (record { told = c.in-Ok-fetch.ensures.told; within = c.in-Ok-fetch.ensures.within }) in
    refused_table c.args.words.now job old middle new after c.in-Ok-sound_in.sound.func is
    (asked_after c.fetch-2.result c.in-Ok-fetch.table middle new job.costs c.in-Ok-fetch.is c.fetch-2.ensures.leaves) c.deref-2.result.now stands c.in-Err-costs_in.refusal c.in-Err-costs_in.ensures.refusal

pub returns-clause-says : goal.returns-clause-says
returns-clause-says g c =
    let job = words_of c.in-Some.job in
    let old = g.F.Files.view c.args.files.now in
    let middle = g.F.Files.view c.fetch.new.self in
    let new = g.F.Files.view c.fetch-2.new.self in
    let after = after_file job old middle c.fetch.result c.in-Ok.text c.in-Ok.is c.fetch.ensures.leaves c.fetch.ensures.cause.later c.fetch.ensures.taken in
    let is = accepted c.args.words.now old.contents job c.in-Ok-sound_in.sound.func c.in-Ok.text.items c.deref.result.now c.in-Some.ensures c.deref.ensures.value (record { told = c.in-Ok.ensures.told; within = c.in-Ok.ensures.within }) c.in-Ok-sound_in.ensures.spells c.in-Ok-sound_in.ensures.sound in
    let stands = table_stands job old middle c.in-Ok-fetch.table.items c.deref-2.result.now after c.deref-2.ensures.value (record { told = c.in-Ok-fetch.ensures.told; within = c.in-Ok-fetch.ensures.within }) in
    said_work c.args.words.now job old middle new after c.in-Ok-sound_in.sound.func is
    (asked_after c.fetch-2.result c.in-Ok-fetch.table middle new job.costs c.in-Ok-fetch.is c.fetch-2.ensures.leaves)
    c.in-Ok-costs_in.costs.lists (record { accepted = is; text = c.deref-2.result.now; stands = stands; table = c.in-Ok-costs_in.ensures.table }) c.work.result c.work.ensures
