-- How far a text was read, and what it comes to.
use Rattle.std.proofs.Common.{pos, ◌≡◌, ◌≢◌, ℕ, zero, suc, ◌+◌, ◌-◌, ◌<◌, List, [], ◌∷◌, ◌++◌, length, map, Bool, true, false, Option, Some, None, Result, Ok, Err, refl, sym, ◌∙◌, ap, subst, inl, inr, append_assoc, arith, length-append}
use Rattle.std.specs.List.{flat_map}
use Rattle.std.proofs.lemmas.List.{append-nil}
use Rattle.std.proofs.lemmas.Bool.{cases_order}
use Rattle.std.proofs.lemmas.List.Splits.{length-slice_split}
use Rattle.mix_system.specs.declared.literal.Term.TheVariants.{Var}
use Rattle.mix_system.specs.declared.literal.Side.TheVariants.{Le}
use Rattle.mix_system.specs.declared.literal.Lit.{Lit}
use Rattle.proof_term.specs.declared.proof.Goal.TheVariants.{Nothing}
use Rattle.proof_term.specs.declared.proof.Shape.{Shape}
use Rattle.proof_term.specs.declared.proof.Proof.{Proof}
use Rattle.proof_term.specs.declared.step.Step.{Step}
use Rattle.proof_term.specs.declared.step.Step.TheVariants.{Lemma, Theory, Leave}
use Rattle.proof_term.specs.declared.tree.Node.{Node}
use Rattle.proof_term.specs.declared.tree.Node.TheVariants.{Leaf}
use Rattle.proof_term.specs.Valid.{is_empty, IsOutermost}
use Rattle.proof_text.specs.declared.line.Version.TheVariants as version
use Rattle.proof_text.specs.declared.line.Line.{Line}
use Rattle.proof_text.specs.declared.line.Line.TheVariants as line
use Rattle.proof_text.specs.declared.line.LineRead.{LineRead}
use Rattle.proof_text.specs.declared.line.LineRead.TheVariants as give
use Rattle.proof_text.specs.Line.{read}
use Rattle.proof_spelling.specs.declared.parsing.TextFault.{TextFault}
use Rattle.proof_spelling.specs.declared.draft.Draft.{Draft}
use Rattle.proof_spelling.specs.declared.draft.Draft.TheVariants as draft
use Rattle.proof_spelling.specs.declared.draft.Opened.{Opened}
use Rattle.proof_spelling.specs.declared.draft.Growing.{Growing}
use Rattle.proof_spelling.specs.Lines.{node_line, step_lines, steps_lines, first_lines, goal_number, proof_lines}
use Rattle.proof_spelling.specs.Complete.{AreTrees, AreInOrder}
use Rattle.proof_spelling.specs.Spells.{is_feed, lines, AreRead, Spells}
use Rattle.proof_spelling.specs.Fault.{Say, BeginAProof, Stops, IsFault, IsParsed}
use Rattle.proof_spelling.specs.Draft.{Spot, AtHeader, AtShape, AtGoal, AtStep, AtNode, AtEnd, after, spot_of, opened_lines, growing_lines, draft_lines, ReadComes, goal_of, proof_of, IsEnded}
use Rattle.proof_spelling.proofs.RunLaws.{at_node, Runs, runs_more, halfway, runs_one, same_spot, run_nodes, run_steps, complete_runs, runs_complete}
use Rattle.proof_spelling.proofs.SaidLaws.{read_said}

-- what bytes say

say_more : (texts : List (List ℕ)) (bytes : List ℕ) (ls : List Line) (l : Line) → Say texts ls → read bytes ≡ give.Fits l → Say (texts ++ bytes ∷ []) (ls ++ l ∷ [])
say_more [] bytes [] l says is = (is, tt)
say_more [] bytes (m ∷ ls) l says is = absurd says
say_more (t ∷ texts) bytes [] l says is = absurd says
say_more (t ∷ texts) bytes (m ∷ ls) l says is = (says.0, say_more texts bytes ls l says.1 is)

say_one : (texts : List (List ℕ)) (ls ms : List Line) → Say texts ls → Say texts ms → ls ≡ ms
say_one [] [] [] one other = refl
say_one [] [] (m ∷ ms) one other = absurd other
say_one [] (l ∷ ls) ms one other = absurd one
say_one (t ∷ texts) [] ms one other = absurd one
say_one (t ∷ texts) (l ∷ ls) [] one other = absurd other
say_one (t ∷ texts) (l ∷ ls) (m ∷ ms) one other =
    let e : give.Fits l ≡ give.Fits m = sym one.0 ∙ other.0 in
    let same : l ≡ m = cc e in
    ap (λ (x : Line). x ∷ ls) same ∙ ap (λ (xs : List Line). m ∷ xs) (say_one texts ls ms one.1 other.1)

record SaidApart (texts : List (List ℕ)) (bytes : List ℕ) (ls : List Line) : Type 0 where
  front : List Line
  last : Line
  whole : ls ≡ front ++ last ∷ []
  says : Say texts front
  reads : read bytes ≡ give.Fits last

said_apart : (texts : List (List ℕ)) (bytes : List ℕ) (ls : List Line) → Say (texts ++ bytes ∷ []) ls → SaidApart texts bytes ls
said_apart [] bytes [] says = absurd says
said_apart [] bytes (l ∷ []) says = record { front = []; last = l; whole = refl; says = tt; reads = says.0 }
said_apart [] bytes (l ∷ m ∷ ls) says = absurd says.1
said_apart (t ∷ texts) bytes [] says = absurd says
said_apart (t ∷ texts) bytes (l ∷ ls) says =
    let rest = said_apart texts bytes ls says.1 in
    record { front = l ∷ rest.front; last = rest.last; whole = ap (λ (xs : List Line). l ∷ xs) rest.whole; says = (says.0, rest.says); reads = rest.reads }

some_text : (xs : List (List ℕ)) (rest : List ℕ) → 0 < length (xs ++ rest ∷ [])
some_text xs rest = omega (arith, length-append xs (rest ∷ []))

say_read : (texts : List (List ℕ)) (rest : List ℕ) (ls : List Line) → Say texts ls → rest ≡ [] → AreRead (texts ++ rest ∷ []) ls
say_read [] rest [] says none = none
say_read [] rest (l ∷ ls) says none = absurd says
say_read (t ∷ texts) rest [] says none = absurd says
say_read (t ∷ texts) rest (l ∷ ls) says none = go (texts ++ rest ∷ []) (some_text texts rest) (say_read texts rest ls says.1 none)
  where
    go : (ts : List (List ℕ)) → 0 < length ts → AreRead ts ls → AreRead (t ∷ ts) (l ∷ ls)
    go [] some reads = absurd (omega (arith, some))
    go (x ∷ ts) some reads = (says.0, reads)

record ReadSay (texts : List (List ℕ)) (rest : List ℕ) (ls : List Line) : Type 0 where
  says : Say texts ls
  none : rest ≡ []

read_say : (texts : List (List ℕ)) (rest : List ℕ) (ls : List Line) → AreRead (texts ++ rest ∷ []) ls → ReadSay texts rest ls
read_say [] rest [] reads = record { says = tt; none = reads }
read_say [] rest (l ∷ ls) reads = absurd reads
read_say (t ∷ texts) rest ls reads = go (texts ++ rest ∷ []) ls (some_text texts rest) refl (read_say texts rest) reads
  where
    go : (ts : List (List ℕ)) (ms : List Line) → 0 < length ts → ts ≡ texts ++ rest ∷ [] → ((ls : List Line) → AreRead (texts ++ rest ∷ []) ls → ReadSay texts rest ls) → AreRead (t ∷ ts) ms
        → ReadSay (t ∷ texts) rest ms
    go [] ms some is later reads = absurd (omega (arith, some))
    go (x ∷ ts) [] some is later reads = absurd reads
    go (x ∷ ts) (m ∷ ms) some is later reads =
        let more = later ms (subst (λ (xs : List (List ℕ)). AreRead xs ms) is reads.1) in
        record { says = (reads.0, more.says); none = more.none }

-- a proof that goes on from what is kept

abbrev leaf_of_one : Node
leaf_of_one = Leaf (record { parts = record { lit = record { term = Var 0; side = Le; bound = pos 0 }; by = pos 1; at_least_once = omega arith } ∷ [] })

abbrev leaves : ℕ → List Node
leaves zero = []
leaves (suc count) = leaf_of_one ∷ leaves count

one_less : (n : ℕ) → suc n - 1 ≡ n
one_less n = omega arith

leaves_trees : (count : ℕ) → AreTrees count (leaves count)
leaves_trees zero = refl
leaves_trees (suc count) = (omega arith, omega arith, subst (λ (n : ℕ). AreTrees n (leaves count)) (sym (one_less count)) (leaves_trees count))

-- the ends of the levels around one that has ended
abbrev closing : ℕ → List Step
closing zero = []
closing (suc around) = Leave ∷ Lemma [] [] ∷ closing around

closing_order : (around : ℕ) → AreInOrder true around (closing around)
closing_order zero = (refl, refl)
closing_order (suc around) = (refl, omega arith, (refl, subst (λ (n : ℕ). AreInOrder true n (closing around)) (sym (one_less around)) (closing_order around)))

abbrev ending : Bool → ℕ → List Step
ending true around = closing around
ending false around = Lemma [] [] ∷ closing around

ending_order : (ended : Bool) (around : ℕ) → AreInOrder ended around (ending ended around)
ending_order true around = closing_order around
ending_order false around = (refl, closing_order around)

begin : (texts : List (List ℕ)) (proof : Proof) (front rest : List Line) (spot : Spot) → IsOutermost proof.goal → proof_lines proof ≡ front ++ rest
    → Runs AtHeader front spot → Runs spot rest AtEnd → Say texts front → BeginAProof texts
begin texts proof front rest spot outer whole before behind says = record {
  proof = proof;
  complete = runs_complete proof outer (subst (λ (ls : List Line). Runs AtHeader ls AtEnd) (sym whole) (runs_more AtHeader front rest spot AtEnd before behind));
  front = front;
  rest = rest;
  whole = whole;
  says = says;
}

number_is : (most : Option ℕ) → goal_number (goal_of most) ≡ most
number_is None = refl
number_is (Some most) = refl

outer_is : (most : Option ℕ) → IsOutermost (goal_of most)
outer_is None = tt
outer_is (Some most) = tt

flat_more : (steps more : List Step) → flat_map step_lines (steps ++ more) ≡ flat_map step_lines steps ++ flat_map step_lines more
flat_more [] more = refl
flat_more (s ∷ steps) more =
    ap (λ (ls : List Line). step_lines s ++ ls) (flat_more steps more) ∙ sym (append_assoc (step_lines s) (flat_map step_lines steps) (flat_map step_lines more))

-- what is kept, with further steps
abbrev ended_with : Opened → List Step → Proof
ended_with opened more = record { goal = goal_of opened.most; shape = opened.shape; steps = opened.steps ++ more }

lines_with : (opened : Opened) (more : List Step) → proof_lines (ended_with opened more) ≡ opened_lines opened ++ steps_lines more
lines_with opened more =
    let first = first_lines opened.shape in
    let steps = flat_map step_lines opened.steps in
    ap (λ (g : Option ℕ). first ++ line.Goal g ∷ steps_lines (opened.steps ++ more)) (number_is opened.most)
    ∙ ap (λ (ls : List Line). first ++ line.Goal opened.most ∷ (ls ++ line.End ∷ [])) (flat_more opened.steps more)
    ∙ ap (λ (ls : List Line). first ++ line.Goal opened.most ∷ ls) (append_assoc steps (flat_map step_lines more) (line.End ∷ []))
    ∙ sym (append_assoc first (line.Goal opened.most ∷ steps) (steps_lines more))

whole_lines : (opened : Opened) → proof_lines (proof_of opened) ≡ opened_lines opened ++ line.End ∷ []
whole_lines opened =
    let first = first_lines opened.shape in
    let steps = flat_map step_lines opened.steps in
    ap (λ (g : Option ℕ). first ++ line.Goal g ∷ steps_lines opened.steps) (number_is opened.most) ∙ sym (append_assoc first (line.Goal opened.most ∷ steps) (line.End ∷ []))

map_more : (nodes more : List Node) → map node_line (nodes ++ more) ≡ map node_line nodes ++ map node_line more
map_more [] more = refl
map_more (n ∷ nodes) more = ap (λ (ls : List Line). node_line n ∷ ls) (map_more nodes more)

theory_lines : (clause : List Lit) (nodes more : List Node) (steps : List Step)
    → steps_lines (Theory clause (record { nodes = nodes ++ more }) ∷ steps) ≡ (line.Theory clause ∷ map node_line nodes) ++ (map node_line more ++ steps_lines steps)
theory_lines clause nodes more steps =
    ap (λ (ls : List Line). line.Theory clause ∷ ls) (append_assoc (map node_line (nodes ++ more)) (flat_map step_lines steps) (line.End ∷ []))
    ∙ ap (λ (ls : List Line). line.Theory clause ∷ (ls ++ steps_lines steps)) (map_more nodes more)
    ∙ ap (λ (ls : List Line). line.Theory clause ∷ ls) (append_assoc (map node_line nodes) (map node_line more) (steps_lines steps))

-- how far a text was read: the lines before what is left are those that are kept, and they lead to its spot
pub record IsRead (text left : List ℕ) (number : ℕ) (kept : Draft) : Type 0 where
  pub before : List (List ℕ)
  pub split : lines text ≡ before ++ lines left
  pub number_is : number ≡ length before + 1
  pub says : Say before (draft_lines kept)
  pub runs : Runs AtHeader (draft_lines kept) (spot_of kept)

pub read_start : (text : List ℕ) → IsRead text text 1 draft.Header
read_start text = record { before = []; split = refl; number_is = omega arith; says = tt; runs = refl }

abbrev one_lemma : List Step
one_lemma = Lemma [] [] ∷ []

one_order : AreInOrder false 0 one_lemma
one_order = (refl, (refl, refl))

begin_node : (texts : List (List ℕ)) (opened : Opened) (growing : Growing) → Say texts (opened_lines opened ++ growing_lines growing)
    → Runs AtHeader (opened_lines opened ++ growing_lines growing) (AtNode (is_empty growing.clause) opened.around growing.others) → BeginAProof texts
begin_node texts opened growing says runs =
    let empty = is_empty growing.clause in
    let others = leaves (growing.others + 1) in
    let steps = ending empty opened.around in
    let more : List Step = Theory growing.clause (record { nodes = growing.nodes ++ others }) ∷ steps in
    let rest = map node_line others ++ steps_lines steps in
    let left : growing.others + 1 - 1 ≡ growing.others = omega arith in
    let spot = at_node empty opened.around (growing.others + 1) (omega arith) ∙ ap (λ (n : ℕ). AtNode empty opened.around n) left in
    let nodes = subst (λ (s : Spot). Runs s (map node_line others) (AtStep empty opened.around)) spot (run_nodes empty opened.around (growing.others + 1) others (leaves_trees (growing.others + 1))) in
    let behind = runs_more (AtNode empty opened.around growing.others) (map node_line others) (steps_lines steps) (AtStep empty opened.around) AtEnd nodes
    (run_steps empty opened.around steps (ending_order empty opened.around)) in
    let whole = lines_with opened more ∙ ap (λ (ls : List Line). opened_lines opened ++ ls) (theory_lines growing.clause growing.nodes others steps)
    ∙ sym (append_assoc (opened_lines opened) (growing_lines growing) rest) in
    begin texts (ended_with opened more) (opened_lines opened ++ growing_lines growing) rest (AtNode empty opened.around growing.others) (outer_is opened.most) whole runs behind says

-- what is kept begins a proof
begins : (texts : List (List ℕ)) (kept : Draft) → Say texts (draft_lines kept) → Runs AtHeader (draft_lines kept) (spot_of kept) → BeginAProof texts
begins texts draft.Header says runs =
    let proof : Proof = record { goal = Nothing; shape = None; steps = one_lemma } in
    begin texts proof [] (proof_lines proof) AtHeader tt refl runs (complete_runs proof (record { goal = tt; steps = one_order })) says
begins texts draft.Shape says runs =
    let shape : Shape = record { vars = 0; clauses = 0 } in
    begin texts (record { goal = Nothing; shape = Some shape; steps = one_lemma }) (line.Header version.Two ∷ []) (line.Shape 0 0 ∷ line.Goal None ∷ steps_lines one_lemma) AtShape tt refl runs
    (tt, (AtGoal, refl, (tt, (AtStep false 0, refl, run_steps false 0 one_lemma one_order)))) says
begins texts (draft.Goal shape) says runs =
    begin texts (record { goal = Nothing; shape = shape; steps = one_lemma }) (first_lines shape) (line.Goal None ∷ steps_lines one_lemma) AtGoal tt refl runs
    (tt, (AtStep false 0, refl, run_steps false 0 one_lemma one_order)) says
begins texts (draft.Step opened) says runs =
    let more = ending opened.ended opened.around in
    begin texts (ended_with opened more) (opened_lines opened) (steps_lines more) (AtStep opened.ended opened.around) (outer_is opened.most) (lines_with opened more) runs
    (run_steps opened.ended opened.around more (ending_order opened.ended opened.around)) says
begins texts (draft.Node opened growing) says runs = begin_node texts opened growing says runs
begins texts (draft.End opened) says runs =
    let front = opened_lines opened ++ line.End ∷ [] in
    begin texts (proof_of opened) front [] AtEnd (outer_is opened.most) (whole_lines opened ∙ sym (append-nil front)) runs refl says

-- one line more

pub read_next : (text left bytes behind : List ℕ) (number later : ℕ) (kept next : Draft) → IsRead text left number kept → lines left ≡ bytes ∷ lines behind
    → ReadComes kept (read bytes) (Some next) → later ≡ number + 1 → IsRead text behind later next
read_next text left bytes behind number later kept next is parts comes one = go (read bytes) refl comes
  where
    go : (r : LineRead) → read bytes ≡ r → ReadComes kept r (Some next) → IsRead text behind later next
    go give.Malformed said none = absurd (cc none)
    go (give.Unfit k) said none = absurd (cc none)
    go (give.Fits l) said goes =
        let full = (read_said bytes l said).full in
        record {
          before = is.before ++ bytes ∷ [];
          split = is.split ∙ ap (λ (ts : List (List ℕ)). is.before ++ ts) parts ∙ sym (append_assoc is.before (bytes ∷ []) (lines behind));
          number_is = omega (arith, one, is.number_is, length-append is.before (bytes ∷ []));
          says = subst (λ (ls : List Line). Say (is.before ++ bytes ∷ []) ls) (sym goes.1) (say_more is.before bytes (draft_lines kept) l is.says said);
          runs = subst (λ (ls : List Line). Runs AtHeader ls (spot_of next)) (sym goes.1)
              (runs_more AtHeader (draft_lines kept) (l ∷ []) (spot_of kept) (spot_of next) is.runs (runs_one (spot_of kept) (spot_of next) l full goes.0));
        }

-- a line with which no proof goes on

no_proof : (text left bytes : List ℕ) (number : ℕ) (kept : Draft) (is : IsRead text left number kept) → ReadComes kept (read bytes) None → BeginAProof (is.before ++ bytes ∷ []) → ⊥
no_proof text left bytes number kept is stuck b =
    let apart = said_apart is.before bytes b.front b.says in
    let same : apart.front ≡ draft_lines kept = say_one is.before apart.front (draft_lines kept) apart.says is.says in
    let lines_are : proof_lines b.proof ≡ (apart.front ++ apart.last ∷ []) ++ b.rest = b.whole ∙ ap (λ (ls : List Line). ls ++ b.rest) apart.whole in
    let runs = subst (λ (ls : List Line). Runs AtHeader ls AtEnd) lines_are (complete_runs b.proof b.complete) in
    let first = halfway AtHeader (apart.front ++ apart.last ∷ []) b.rest AtEnd runs in
    let parts = halfway AtHeader apart.front (apart.last ∷ []) first.mid first.front in
    let spot : parts.mid ≡ spot_of kept = same_spot AtHeader (draft_lines kept) parts.mid (spot_of kept) (subst (λ (ls : List Line). Runs AtHeader ls parts.mid) same parts.front) is.runs in
    let goes = subst (λ (s : Spot). Runs s (apart.last ∷ []) first.mid) spot parts.back in
    let none : after (spot_of kept) apart.last ≡ None = subst (λ (r : LineRead). ReadComes kept r None) apart.reads stuck in
    let e : None ≡ Some goes.1.0 = sym none ∙ goes.1.1 in
    absurd (cc e)

some_lines : (bytes : List ℕ) → 0 < length (lines bytes)
some_lines bytes = omega (arith, length-slice_split is_feed bytes)

pub stuck_fault : (text left bytes behind : List ℕ) (number : ℕ) (kept : Draft) → IsRead text left number kept → lines left ≡ bytes ∷ lines behind
    → ReadComes kept (read bytes) None → IsFault text number
stuck_fault text left bytes behind number kept is parts stuck = record {
  before = is.before;
  behind = bytes ∷ lines behind;
  split = is.split ∙ ap (λ (ts : List (List ℕ)). is.before ++ ts) parts;
  number_is = is.number_is;
  begins = begins is.before kept is.says is.runs;
  stops = stops (lines behind) (some_lines behind);
}
  where
    stops : (ts : List (List ℕ)) → 0 < length ts → Stops is.before (bytes ∷ ts)
    stops [] some = absurd (omega (arith, some))
    stops (t ∷ ts) some = no_proof text left bytes number kept is stuck

-- the end of a text

no_end : (kept : Draft) → ((opened : Opened) → kept ≢ draft.End opened) → AtEnd ≡ spot_of kept → ⊥
no_end draft.Header none is = absurd (cc is)
no_end draft.Shape none is = absurd (cc is)
no_end (draft.Goal shape) none is = absurd (cc is)
no_end (draft.Step opened) none is = absurd (cc is)
no_end (draft.Node opened growing) none is = absurd (cc is)
no_end (draft.End opened) none is = none opened refl

pub read_end : (text left : List ℕ) (number : ℕ) (kept : Draft) (answer : Result Proof TextFault) → IsRead text left number kept → lines left ≡ left ∷ [] → IsEnded kept number left answer → IsParsed text answer
read_end text left number kept (Ok proof) is rest ended =
    let opened = ended.1.0 in
    let says = subst (λ (k : Draft). Say is.before (draft_lines k)) ended.1.1 is.says in
    let runs = subst (λ (k : Draft). Runs AtHeader (draft_lines k) (spot_of k)) ended.1.1 is.runs in
    let spelled : Spells text (proof_of opened) = record {
      complete = runs_complete (proof_of opened) (outer_is opened.most) (subst (λ (ls : List Line). Runs AtHeader ls AtEnd) (sym (whole_lines opened)) runs);
      reads = subst (λ (ts : List (List ℕ)). AreRead ts (proof_lines (proof_of opened))) (sym (is.split ∙ ap (λ (ts : List (List ℕ)). is.before ++ ts) rest))
          (subst (λ (ls : List Line). AreRead (is.before ++ left ∷ []) ls) (sym (whole_lines opened)) (say_read is.before left (opened_lines opened ++ line.End ∷ []) says ended.0));
    } in
    subst (λ (p : Proof). Spells text p) (sym ended.1.2) spelled
read_end text left number kept (Err fault) is rest ended = record {
  before = is.before;
  behind = left ∷ [];
  split = is.split ∙ ap (λ (ts : List (List ℕ)). is.before ++ ts) rest;
  number_is = ended.0 ∙ is.number_is;
  begins = begins is.before kept is.says is.runs;
  stops = elim ended.1 [
    | inl some ↦ inl some
    | inr none ↦ inr (λ p.
        let same = say_one is.before (proof_lines p.proof) (draft_lines kept) p.says is.says in
        no_end kept none (same_spot AtHeader (draft_lines kept) AtEnd (spot_of kept) (subst (λ (ls : List Line). Runs AtHeader ls AtEnd) same (complete_runs p.proof p.complete)) is.runs))
  ];
}

-- a faulty text spells nothing, and has one fault

record FrontSaid (before : List (List ℕ)) (piece : List ℕ) (ls : List Line) : Type 0 where
  front : List Line
  rest : List Line
  whole : ls ≡ front ++ rest
  says : Say (before ++ piece ∷ []) front

some_more : (xs : List (List ℕ)) (y : List ℕ) (ys : List (List ℕ)) → 0 < length (xs ++ y ∷ ys)
some_more xs y ys = omega (arith, length-append xs (y ∷ ys))

-- the pieces of a text that is spelled, up to some place
say_front : (before : List (List ℕ)) (piece : List ℕ) (more : List (List ℕ)) (ls : List Line) → 0 < length more → AreRead (before ++ piece ∷ more) ls → FrontSaid before piece ls
say_front [] piece [] ls some reads = absurd (omega (arith, some))
say_front [] piece (next ∷ more) [] some reads = absurd reads
say_front [] piece (next ∷ more) (l ∷ ls) some reads = record { front = l ∷ []; rest = ls; whole = refl; says = (reads.0, tt) }
say_front (t ∷ before) piece more ls some reads = go (before ++ piece ∷ more) ls (some_more before piece more) refl (λ ms there. say_front before piece more ms some there) reads
  where
    go : (ts : List (List ℕ)) (ms : List Line) → 0 < length ts → ts ≡ before ++ piece ∷ more → ((ls : List Line) → AreRead (before ++ piece ∷ more) ls → FrontSaid before piece ls) → AreRead (t ∷ ts) ms
        → FrontSaid (t ∷ before) piece ms
    go [] ms none is later reads = absurd (omega (arith, none))
    go (x ∷ ts) [] none is later reads = absurd reads
    go (x ∷ ts) (m ∷ ms) none is later reads =
        let f = later ms (subst (λ (xs : List (List ℕ)). AreRead xs ms) is reads.1) in
        record { front = m ∷ f.front; rest = f.rest; whole = ap (λ (xs : List Line). m ∷ xs) f.whole; says = (reads.0, f.says) }

pub faulty : (text : List ℕ) (number : ℕ) (proof : Proof) → IsFault text number → Spells text proof → ⊥
faulty text number proof fault spells = go fault.behind fault.split fault.stops
  where
    go : (behind : List (List ℕ)) → lines text ≡ fault.before ++ behind → Stops fault.before behind → ⊥
    go [] is stops = stops
    go (rest ∷ []) is stops =
        let said = read_say fault.before rest (proof_lines proof) (subst (λ (ts : List (List ℕ)). AreRead ts (proof_lines proof)) is spells.reads) in
        elim stops [
          | inl some ↦ some said.none
          | inr none ↦ none (record { proof = proof; complete = spells.complete; says = said.says })
        ]
    go (bytes ∷ next ∷ more) is stops =
        let f = say_front fault.before bytes (next ∷ more) (proof_lines proof) (omega arith) (subst (λ (ts : List (List ℕ)). AreRead ts (proof_lines proof)) is spells.reads) in
        stops (record { proof = proof; complete = spells.complete; front = f.front; rest = f.rest; whole = f.whole; says = f.says })

say_begin : (before : List (List ℕ)) (piece : List ℕ) (more : List (List ℕ)) (ls : List Line) → Say (before ++ piece ∷ more) ls → FrontSaid before piece ls
say_begin [] piece more [] says = absurd says
say_begin [] piece more (l ∷ ls) says = record { front = l ∷ []; rest = ls; whole = refl; says = (says.0, tt) }
say_begin (t ∷ before) piece more [] says = absurd says
say_begin (t ∷ before) piece more (l ∷ ls) says =
    let f = say_begin before piece more ls says.1 in
    record { front = l ∷ f.front; rest = f.rest; whole = ap (λ (xs : List Line). l ∷ xs) f.whole; says = (says.0, f.says) }

begin_front : (before : List (List ℕ)) (piece : List ℕ) (more : List (List ℕ)) → BeginAProof (before ++ piece ∷ more) → BeginAProof (before ++ piece ∷ [])
begin_front before piece more b =
    let f = say_begin before piece more b.front b.says in
    record {
      proof = b.proof;
      complete = b.complete;
      front = f.front;
      rest = f.rest ++ b.rest;
      whole = b.whole ∙ ap (λ (ls : List Line). ls ++ b.rest) f.whole ∙ append_assoc f.front f.rest b.rest;
      says = f.says;
    }

record Ahead (xs ys zs ws : List (List ℕ)) : Type 0 where
  piece : List ℕ
  more : List (List ℕ)
  front : zs ≡ xs ++ piece ∷ more
  back : ys ≡ piece ∷ (more ++ ws)

ahead : (xs ys zs ws : List (List ℕ)) → xs ++ ys ≡ zs ++ ws → length xs < length zs → Ahead xs ys zs ws
ahead [] ys [] ws is less = absurd (omega (arith, less))
ahead [] ys (z ∷ zs) ws is less = record { piece = z; more = zs; front = refl; back = is }
ahead (x ∷ xs) ys [] ws is less = absurd (omega (arith, less))
ahead (x ∷ xs) ys (z ∷ zs) ws is less =
    let first : x ≡ z = cc is in
    let rest : xs ++ ys ≡ zs ++ ws = cc is in
    let a = ahead xs ys zs ws rest (omega (arith, less)) in
    record { piece = a.piece; more = a.more; front = ap (λ (t : List ℕ). t ∷ zs) (sym first) ∙ ap (λ (ts : List (List ℕ)). x ∷ ts) a.front; back = a.back }

some_behind : (before behind : List (List ℕ)) → Stops before behind → 0 < length behind
some_behind before [] stops = absurd stops
some_behind before (t ∷ ts) stops = omega arith

no_later : (text : List ℕ) (first second : ℕ) → IsFault text first → IsFault text second → first < second → ⊥
no_later text first second f g less =
    let a = ahead f.before f.behind g.before g.behind (sym f.split ∙ g.split) (omega (arith, less, f.number_is, g.number_is)) in
    go (a.more ++ g.behind) a.piece (omega (arith, length-append a.more g.behind, some_behind g.before g.behind g.stops))
    (subst (λ (ts : List (List ℕ)). Stops f.before ts) a.back f.stops)
    (begin_front f.before a.piece a.more (subst BeginAProof a.front g.begins))
  where
    go : (ts : List (List ℕ)) (piece : List ℕ) → 0 < length ts → Stops f.before (piece ∷ ts) → BeginAProof (f.before ++ piece ∷ []) → ⊥
    go [] piece some stops b = absurd (omega (arith, some))
    go (t ∷ ts) piece some stops b = stops b

pub one_fault : (text : List ℕ) (first second : ℕ) → IsFault text first → IsFault text second → first ≡ second
one_fault text first second f g = elim (cases_order first second) [
  | inl same ↦ same
  | inr apart ↦ elim apart [
    | inl less ↦ absurd (no_later text first second f g less)
    | inr more ↦ absurd (no_later text second first g f more)
  ]
]
