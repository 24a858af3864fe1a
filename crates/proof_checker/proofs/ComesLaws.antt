-- What a line comes to, by what was found of it and kept.
use Rattle.std.proofs.Common.{◌≡◌, ℕ, ℤ, pos, ◌+ℤ◌, FitsSigned, List, [], ◌∷◌, Bool, true, Result, Ok, Err, IfOk, refl, sym, ap, subst, All}
use Rattle.std.specs.Int.{w128}
use Rattle.std.proofs.lemmas.Bool.{false≢true}
use Rattle.std.proofs.lemmas.List.Elements.{All-nil, All-cons}
use Rattle.wx_num.specs.declared.excess.NumOp.TheVariants.{Plus}
use Rattle.wx_num.specs.declared.excess.Excess.{Excess}
use Rattle.wx_num.specs.Excess.{Overflows}
use Rattle.proof_term.specs.Steps.{StaysWithin}
use Rattle.proof_text.specs.declared.line.Line.{Line}
use Rattle.proof_text.specs.declared.line.Line.TheVariants as line
use Rattle.proof_text.specs.declared.line.LineRead.{LineRead}
use Rattle.proof_text.specs.Line.{read}
use Rattle.leaf_check.specs.Steps.{IsFirstExcess}
use Rattle.proof_checker.specs.declared.base.Base.{Base}
use Rattle.proof_checker.specs.declared.kept.Kept.{Kept}
use Rattle.proof_checker.specs.declared.kept.Found.{Found}
use Rattle.proof_checker.specs.declared.kept.Found.TheVariants as found
use Rattle.proof_checker.specs.Place.{Place, is_header_kind, is_shape_kind, is_goal_kind, is_step_kind, is_node_kind, kind_of}
use Rattle.proof_checker.specs.Outcome.{Outcome, Next, Fails, ReadGives, Gives}
use Rattle.proof_checker.specs.Kept.{IsKept, Comes, LineOf}

pub comes_as : (base : Base) (P Q : Outcome → Type 0) → ((o : Outcome) → P o → Q o) → (f : Found) → Comes base P f → Comes base Q f
comes_as base P Q gives (found.At k) comes = (comes.0, comes.1, gives (Next comes.0) comes.2)
comes_as base P Q gives (found.Failed why) comes = gives (Fails why) comes

pub if_ok_as : {A E : Type 0} (P Q : A → Type 0) → ((x : A) → P x → Q x) → (r : Result A E) → IfOk r P → IfOk r Q
if_ok_as P Q gives (Ok x) p = gives x p
if_ok_as P Q gives (Err e) p = tt

-- a line that is one of its kind comes to what that kind gives
pub of_kind : (base : Base) (place : Place) (l m : Line) (Gives : Outcome → Type 0) → l ≡ m → ((o : Outcome) → Gives o → LineOf base place m o) → (f : Found) → Comes base Gives f
    → Comes base (LineOf base place l) f
of_kind base place l m Gives is gives f comes =
    comes_as base Gives (LineOf base place l) (λ o given. subst (λ (n : Line). LineOf base place n o) (sym is) (gives o given)) f comes

pub ok_of_kind : {E : Type 0} (base : Base) (place : Place) (l m : Line) (Gives : Outcome → Type 0) → l ≡ m → ((o : Outcome) → Gives o → LineOf base place m o) → (r : Result Found E)
    → IfOk r (Comes base Gives) → IfOk r (Comes base (LineOf base place l))
ok_of_kind base place l m Gives is gives r comes = if_ok_as (Comes base Gives) (Comes base (LineOf base place l)) (of_kind base place l m Gives is gives) r comes

-- the same of the place and of the bytes of a line
pub kept_line : {E : Type 0} (base : Base) (k : Kept) (place : Place) (l : Line) → ((at : Place) → IsKept base k at → at ≡ place) → (r : Result Found E)
    → IfOk r (Comes base (LineOf base place l)) → IfOk r (λ f. (at : Place) → IsKept base k at → Comes base (LineOf base at l) f)
kept_line base k place l only r comes =
    if_ok_as (Comes base (LineOf base place l)) (λ f. (at : Place) → IsKept base k at → Comes base (LineOf base at l) f)
    (λ f here at is. subst (λ (p : Place). Comes base (LineOf base p l) f) (sym (only at is)) here) r comes

pub said_by : (base : Base) (at : Place) (bytes : List ℕ) (said : LineRead) (f : Found) → said ≡ read bytes → Comes base (ReadGives base.system.now base.cost at said) f
    → Comes base (Gives base.system.now base.cost at bytes) f
said_by base at bytes said f is comes = subst (λ (r : LineRead). Comes base (ReadGives base.system.now base.cost at r) f) is comes

-- a number that is one more than another

pub one_more : (bound : ℤ) (excess : Excess) → excess ≡ record { op = Plus; x = bound; y = pos 1 } → (FitsSigned w128 (bound +ℤ pos 1) → ⊥)
    → IsFirstExcess (record { op = Plus; x = bound; y = pos 1 } ∷ []) excess
one_more bound excess is unfit = record {
  before = [];
  after = [];
  split = ap (λ (e : Excess). e ∷ []) (sym is);
  stay = All-nil StaysWithin;
  overflows = subst Overflows (sym is) unfit;
}

pub only_step : (step : Excess) → StaysWithin step → All StaysWithin (step ∷ [])
only_step step stays = All-cons StaysWithin step [] stays (All-nil StaysWithin)

-- the kinds of lines that may not stand at a place

pub no_header : (l : Line) → ((v : _) → l ≡ line.Header v → ⊥) → is_header_kind (kind_of l) ≡ true → ⊥
no_header (line.Header v) not_one e = not_one v refl
no_header (line.Shape vars clauses) not_one e = false≢true e
no_header (line.Goal most) not_one e = false≢true e
no_header (line.Lemma lits hints) not_one e = false≢true e
no_header (line.Theory lits) not_one e = false≢true e
no_header (line.Split var middle) not_one e = false≢true e
no_header (line.Leaf parts) not_one e = false≢true e
no_header (line.Cut term bound) not_one e = false≢true e
no_header line.End not_one e = false≢true e

pub no_shape : (l : Line) → ((vars clauses : _) → l ≡ line.Shape vars clauses → ⊥) → is_shape_kind (kind_of l) ≡ true → ⊥
no_shape (line.Header v) not_one e = false≢true e
no_shape (line.Shape vars clauses) not_one e = not_one vars clauses refl
no_shape (line.Goal most) not_one e = false≢true e
no_shape (line.Lemma lits hints) not_one e = false≢true e
no_shape (line.Theory lits) not_one e = false≢true e
no_shape (line.Split var middle) not_one e = false≢true e
no_shape (line.Leaf parts) not_one e = false≢true e
no_shape (line.Cut term bound) not_one e = false≢true e
no_shape line.End not_one e = false≢true e

pub no_goal : (l : Line) → ((most : _) → l ≡ line.Goal most → ⊥) → is_goal_kind (kind_of l) ≡ true → ⊥
no_goal (line.Header v) not_one e = false≢true e
no_goal (line.Shape vars clauses) not_one e = false≢true e
no_goal (line.Goal most) not_one e = not_one most refl
no_goal (line.Lemma lits hints) not_one e = false≢true e
no_goal (line.Theory lits) not_one e = false≢true e
no_goal (line.Split var middle) not_one e = false≢true e
no_goal (line.Leaf parts) not_one e = false≢true e
no_goal (line.Cut term bound) not_one e = false≢true e
no_goal line.End not_one e = false≢true e

pub no_step : (ended : Bool) (l : Line) → ((lits hints : _) → l ≡ line.Lemma lits hints → ⊥) → ((lits : _) → l ≡ line.Theory lits → ⊥) → ((term bound : _) → l ≡ line.Cut term bound → ⊥)
    → (l ≡ line.End → ⊥) → is_step_kind ended (kind_of l) ≡ true → ⊥
no_step ended (line.Header v) not_lemma not_theory not_cut not_end e = false≢true e
no_step ended (line.Shape vars clauses) not_lemma not_theory not_cut not_end e = false≢true e
no_step ended (line.Goal most) not_lemma not_theory not_cut not_end e = false≢true e
no_step ended (line.Lemma lits hints) not_lemma not_theory not_cut not_end e = not_lemma lits hints refl
no_step ended (line.Theory lits) not_lemma not_theory not_cut not_end e = not_theory lits refl
no_step ended (line.Split var middle) not_lemma not_theory not_cut not_end e = false≢true e
no_step ended (line.Leaf parts) not_lemma not_theory not_cut not_end e = false≢true e
no_step ended (line.Cut term bound) not_lemma not_theory not_cut not_end e = not_cut term bound refl
no_step ended line.End not_lemma not_theory not_cut not_end e = not_end refl

-- behind the empty clause
pub no_step_behind : (l : Line) → (l ≡ line.End → ⊥) → is_step_kind true (kind_of l) ≡ true → ⊥
no_step_behind (line.Header v) not_end e = false≢true e
no_step_behind (line.Shape vars clauses) not_end e = false≢true e
no_step_behind (line.Goal most) not_end e = false≢true e
no_step_behind (line.Lemma lits hints) not_end e = false≢true e
no_step_behind (line.Theory lits) not_end e = false≢true e
no_step_behind (line.Split var middle) not_end e = false≢true e
no_step_behind (line.Leaf parts) not_end e = false≢true e
no_step_behind (line.Cut term bound) not_end e = false≢true e
no_step_behind line.End not_end e = not_end refl

pub no_node : (l : Line) → ((var middle : _) → l ≡ line.Split var middle → ⊥) → ((parts : _) → l ≡ line.Leaf parts → ⊥) → is_node_kind (kind_of l) ≡ true → ⊥
no_node (line.Header v) not_split not_leaf e = false≢true e
no_node (line.Shape vars clauses) not_split not_leaf e = false≢true e
no_node (line.Goal most) not_split not_leaf e = false≢true e
no_node (line.Lemma lits hints) not_split not_leaf e = false≢true e
no_node (line.Theory lits) not_split not_leaf e = false≢true e
no_node (line.Split var middle) not_split not_leaf e = not_split var middle refl
no_node (line.Leaf parts) not_split not_leaf e = not_leaf parts refl
no_node (line.Cut term bound) not_split not_leaf e = false≢true e
no_node line.End not_split not_leaf e = false≢true e
