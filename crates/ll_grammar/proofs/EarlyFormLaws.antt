-- The forms of instructions look at no token behind the first one that they leave.
use Rattle.std.proofs.Common.{◌≡◌, ◌≤◌, ℕ, zero, suc, Bool, true, false, List, [], ◌∷◌, ◌++◌, length, drop, Option, Some, None, refl, ap, arith}
use Rattle.std.specs.Prelude.{codes, ◌==◌, if◌then◌else◌}
use Rattle.std.specs.Option.{option_map_or}
use Rattle.std.specs.Str.{bytes_eq}
use Rattle.ll_token.specs.declared.token.TokenKind.{TokenKind}
use Rattle.ll_token.specs.declared.token.TokenKind.TheVariants as kinds
use Rattle.ll_tree.specs.declared.block.Operand.{Operand}
use Rattle.ll_tree.specs.declared.block.Operand.TheVariants as value
use Rattle.ll_tree.specs.declared.block.PhiEntry.{PhiEntry}
use Rattle.ll_tree.specs.declared.block.Case.{Case}
use Rattle.ll_tree.specs.declared.block.End.TheVariants as end
use Rattle.ll_tree.specs.declared.op.Op.TheVariants as op
use Rattle.ll_tree.specs.declared.op.Flags.{Flags}
use Rattle.ll_tree.specs.declared.op.BinKind.{BinKind}
use Rattle.ll_tree.specs.declared.op.CastKind.{CastKind}
use Rattle.ll_grammar.specs.declared.opcodes.Callee.{Callee}
use Rattle.ll_grammar.specs.declared.opcodes.Callee.TheVariants as callee
use Rattle.ll_grammar.specs.declared.stop.Place.{Place}
use Rattle.ll_grammar.specs.declared.stop.Place.TheVariants as place
use Rattle.ll_grammar.specs.Tokens.{Tok, word_at, mark_at, kind_at, name_at, group_at}
use Rattle.ll_grammar.specs.Words.{width_of, has_width, binary_of, cast_of, pred_of, takes, cast_takes, compare_takes, no_flags, add_flag}
use Rattle.ll_grammar.specs.Reading.{Read, Done, Fault, RanOut, ◌>>=◌, stopped, mark, keyword, name, metadatum, width, one_width, literal_at, literal}
use Rattle.ll_grammar.specs.Forms.{operand, typed, of_width, second, target, next_target, flags_within, flags, binary, compare, conversion, select, is_call_word, call_words, callee_at, called, last_argument, close_call, value_call, assume_at, assume_callee, void, assume, operation, entry, behind_comma, another, entries_behind, entries, phi, return_value, branch, case, cases, switch, terminator}
use Rattle.ll_grammar.proofs.DoneLaws.{OnDone, weaken}
use Rattle.ll_grammar.proofs.FormLaws.{case_sound}
use Rattle.ll_grammar.proofs.StatementLaws.{entry_sound, another_sound, Follows}
use Rattle.ll_grammar.proofs.LeavesLaws.{case_leaves, entry_leaves, metadata_leave}
use Rattle.ll_grammar.proofs.EarlyLaws.{IsEarly, Looks, early_done, early_ran_out, early_taken, early_stopped, early_then, early_if, early_some, early_take_if, early_take_some, early_behind, early_within, settles_from, early_same, push_if}

-- ---- single tokens

pub looks_word : Looks word_at
unfolding word_at
looks_word t a c = refl

pub looks_mark : (byte : ℕ) → Looks (mark_at byte)
unfolding mark_at
looks_mark byte t a c = refl

pub looks_kind : (kind : TokenKind) → Looks (kind_at kind)
unfolding kind_at
looks_kind kind t a c = refl

pub looks_name : Looks name_at
unfolding name_at
looks_name t a c = refl

pub looks_group : Looks group_at
unfolding group_at
looks_group t a c = refl

pub looks_literal : (w : ℕ) → Looks (literal_at w)
unfolding literal_at
looks_literal w t a c = refl

pub looks_callee : (w : ℕ) → Looks (callee_at w)
unfolding callee_at kind_at name_at
looks_callee w t a c = refl

pub looks_assume : Looks assume_at
unfolding assume_at kind_at name_at
looks_assume t a c = refl

-- what is said of the next word
pub looks_of_word : {A : Type 0} (g : List ℕ → A) → Looks (λ ts. g (word_at ts))
looks_of_word g t a c = ap g (looks_word t a c)

pub is_text : List ℕ → List Tok → Bool
is_text word ts = bytes_eq (word_at ts) word

pub looks_nothing : {A : Type 0} (x : A) → Looks (λ ts. x)
looks_nothing x t a c = refl

pub early_mark : (byte : ℕ) → IsEarly (mark byte)
unfolding mark
early_mark byte = early_take_if (mark_at byte) (λ _. tt {0}) place.Other (looks_mark byte) (looks_nothing (tt {0}))

pub early_keyword : (word : List ℕ) → IsEarly (keyword word)
unfolding keyword
early_keyword word = early_take_if (λ ts. bytes_eq (word_at ts) word) (λ _. tt {0}) place.Other (looks_of_word (λ w. bytes_eq w word)) (looks_nothing (tt {0}))

pub early_name : (kind : TokenKind) (at : Place) → IsEarly (name kind at)
unfolding name
early_name kind at = early_take_if (kind_at kind) name_at at (looks_kind kind) looks_name

pub early_metadatum : IsEarly metadatum
unfolding metadatum
early_metadatum = early_take_if (kind_at kinds.Meta) (λ _. tt {0}) place.Other (looks_kind kinds.Meta) (looks_nothing (tt {0}))

pub early_width : IsEarly width
unfolding width
early_width = early_take_some (λ ts. width_of (word_at ts)) place.Type (looks_of_word width_of)

pub early_one_width : (w : ℕ) → IsEarly (one_width w)
unfolding one_width
early_one_width w = early_take_if (λ ts. has_width w (word_at ts)) (λ _. tt {0}) place.Type (looks_of_word (has_width w)) (looks_nothing (tt {0}))

pub early_literal : (w : ℕ) → IsEarly (literal w)
unfolding literal
early_literal w = early_take_some (literal_at w) place.Literal (looks_literal w)

-- ---- operands and targets

pub early_operand : (w : ℕ) → IsEarly (operand w)
unfolding operand
early_operand w =
    early_if (kind_at kinds.Local) (λ ts. Done (value.Name (name_at ts)) (drop 1 ts)) _ (looks_kind kinds.Local) (early_taken (λ ts. value.Name (name_at ts)) (λ t a c. ap (λ (n : List ℕ). value.Name n) (looks_name t a c)))
    (early_if (λ ts. bytes_eq (word_at ts) (codes "poison")) (λ ts. Done value.Poison (drop 1 ts)) _ (looks_of_word (λ w. bytes_eq w (codes "poison"))) (early_taken (λ _. value.Poison) (looks_nothing value.Poison))
    (early_then (literal w) (λ n ts. Done (value.Const n) ts) (early_literal w) (λ n. early_done (value.Const n))))

pub early_typed : IsEarly typed
unfolding typed
early_typed = early_then _ _ early_width (λ w. early_then _ _ (early_operand w) (λ x. early_done (w, x)))

pub early_of_width : (w : ℕ) → IsEarly (of_width w)
unfolding of_width
early_of_width w = early_then _ (λ _. operand w) (early_one_width w) (λ _. early_operand w)

pub early_second : (w : ℕ) → IsEarly (second w)
unfolding second
early_second w = early_then _ (λ _. operand w) (early_mark 44) (λ _. early_operand w)

pub early_target : IsEarly target
unfolding target
early_target = early_then _ (λ _. name kinds.Local place.Other) (early_keyword (codes "label")) (λ _. early_name kinds.Local place.Other)

pub early_next_target : IsEarly next_target
unfolding next_target
early_next_target = early_then _ (λ _. target) (early_mark 44) (λ _. early_target)

-- ---- steps that change nothing

pub then_same : {A B : Type 0} (r : Read A) (f g : A → List Tok → Read B) → OnDone r (λ x a. f x a ≡ g x a) → (r >>= f) ≡ (r >>= g)
then_same (Done x a) f g here = here.holds
then_same (Fault r a) f g here = refl
then_same RanOut f g here = refl

pub if_same : {A : Type 0} (b : Bool) (r s u v : A) → (b ≡ true → r ≡ u) → (b ≡ false → s ≡ v) → (if b then r else s) ≡ (if b then u else v)
if_same true r s u v yes_ other = yes_ refl
if_same false r s u v yes_ other = other refl

pub some_same : {A B : Type 0} (f g : A → B) (o : Option A) (r : B) → ((x : A) → f x ≡ g x) → option_map_or f o r ≡ option_map_or g o r
some_same f g (Some x) r same = same x
some_same f g None r same = refl

pub behind_fits : (n : ℕ) (ts : List Tok) → length ts ≤ suc n → length (drop 1 ts) ≤ n
behind_fits n [] fits = omega arith
behind_fits n (t ∷ ts) fits = omega (arith, fits)

-- ---- flags

pub flags_settle : (allowed : Flags) (n : ℕ) (so_far : Flags) (ts : List Tok) → length ts ≤ n → flags_within n allowed so_far ts ≡ flags_within (suc n) allowed so_far ts
unfolding flags_within word_at add_flag
flags_settle allowed zero so_far [] fits = refl
flags_settle allowed zero so_far (t ∷ ts) fits = absurd (omega arith)
flags_settle allowed (suc n) so_far ts fits = some_same _ _ (add_flag allowed so_far (word_at ts)) (Done so_far ts) (λ more. flags_settle allowed n more (drop 1 ts) (behind_fits n ts fits))

pub early_flags_within : (allowed : Flags) (n : ℕ) (so_far : Flags) → IsEarly (flags_within n allowed so_far)
unfolding flags_within
early_flags_within allowed zero so_far = early_done so_far
early_flags_within allowed (suc n) so_far =
    early_some (λ ts. add_flag allowed so_far (word_at ts)) (λ more ts. flags_within n allowed more (drop 1 ts)) (λ ts. Done so_far ts) (looks_of_word (add_flag allowed so_far))
    (λ more. early_behind (flags_within n allowed more) (early_flags_within allowed n more)) (early_done so_far)

pub early_flags : (allowed : Flags) → IsEarly (flags allowed)
unfolding flags
early_flags allowed = early_within (λ n. flags_within n allowed no_flags) (settles_from _ (λ n ts fits. flags_settle allowed n no_flags ts fits)) (λ n. early_flags_within allowed n no_flags)

-- ---- operations

pub early_binary : (kind : BinKind) → IsEarly (binary kind)
unfolding binary
early_binary kind = early_then _ _ (early_flags (takes kind)) (λ f. early_then _ _ early_typed (λ left. early_then _ _ (early_second left.0) (λ right. early_done (op.Bin kind f left.0 left.1 right))))

pub early_compare : IsEarly compare
unfolding compare
early_compare = early_then _ _ (early_flags compare_takes) (λ f. early_then _ _ (early_take_some (λ ts. pred_of (word_at ts)) place.Keyword (looks_of_word pred_of))
    (λ p. early_then _ _ early_typed (λ left. early_then _ _ (early_second left.0) (λ right. early_done (op.Cmp p f left.0 left.1 right)))))

pub early_conversion : (kind : CastKind) → IsEarly (conversion kind)
unfolding conversion
early_conversion kind = early_then _ _ (early_flags (cast_takes kind)) (λ f. early_then _ _ early_typed (λ arg. early_then _ _ (early_keyword (codes "to")) (λ _. early_then _ _ early_width (λ to. early_done (op.Cast kind f arg.0 arg.1 to)))))

pub early_select : IsEarly select
unfolding select
early_select = early_then _ _ (early_of_width 1) (λ x. early_then _ _ (early_mark 44) (λ _. early_then _ _ early_typed (λ left. early_then _ _ (early_mark 44) (λ _. early_then _ _ (early_of_width left.0) (λ right. early_done (op.Select left.0 x left.1 right))))))

-- ---- calls

pub early_call_words : IsEarly call_words
unfolding call_words
early_call_words = early_same _ (λ ts. if bytes_eq (word_at ts) (codes "call") then keyword (codes "call") ts else keyword (codes "call") (drop 1 ts)) (λ ts. push_if (keyword (codes "call")) (bytes_eq (word_at ts) (codes "call")) ts (drop 1 ts))
    (early_if (λ ts. bytes_eq (word_at ts) (codes "call")) (keyword (codes "call")) (λ ts. keyword (codes "call") (drop 1 ts)) (looks_of_word (λ w. bytes_eq w (codes "call"))) (early_keyword (codes "call")) (early_behind (keyword (codes "call")) (early_keyword (codes "call"))))

pub early_called : (w : ℕ) → IsEarly (called w)
unfolding called
early_called w = early_take_some (callee_at w) place.Callee (looks_callee w)

pub early_last_argument : (f : Callee) (w : ℕ) (x : Operand) → IsEarly (last_argument f w x)
unfolding last_argument
early_last_argument (callee.Bin kind) w x = early_then _ _ (early_of_width w) (λ right. early_done (op.Bin kind no_flags w x right))
early_last_argument callee.Abs w x = early_then _ _ (early_one_width 1) (λ _. early_then _ _ (early_literal 1) (λ n. early_done (op.Abs w x (n == 1))))

pub early_group : IsEarly (λ ts. Done (tt {0}) (if group_at ts then drop 1 ts else ts))
early_group = early_same _ (λ ts. if group_at ts then Done (tt {0}) (drop 1 ts) else Done (tt {0}) ts) (λ ts. push_if (λ (l : List Tok). Done (tt {0}) l) (group_at ts) (drop 1 ts) ts)
    (early_if group_at (λ ts. Done (tt {0}) (drop 1 ts)) (λ ts. Done (tt {0}) ts) looks_group (early_taken (λ _. tt {0}) (looks_nothing (tt {0}))) (early_done (tt {0})))

pub early_close_call : IsEarly close_call
unfolding close_call
early_close_call = early_then _ (λ _ ts. Done (tt {0}) (if group_at ts then drop 1 ts else ts)) (early_mark 41) (λ _. early_group)

pub early_value_call : IsEarly value_call
unfolding value_call
early_value_call = early_then _ _ early_call_words (λ _. early_then _ _ early_width (λ w. early_then _ _ (early_called w) (λ f. early_then _ _ (early_mark 40) (λ _. early_then _ _ (early_of_width w) (λ first. early_then _ _ (early_mark 44) (λ _.
    early_then _ _ (early_last_argument f w first) (λ computed. early_then _ _ early_close_call (λ _. early_done computed))))))))

pub early_void : IsEarly void
unfolding void
early_void = early_take_if (λ ts. bytes_eq (word_at ts) (codes "void")) (λ _. tt {0}) place.Type (looks_of_word (λ w. bytes_eq w (codes "void"))) (looks_nothing (tt {0}))

pub early_assume_callee : IsEarly assume_callee
unfolding assume_callee
early_assume_callee = early_take_if assume_at (λ _. tt {0}) place.Callee looks_assume (looks_nothing (tt {0}))

pub early_assume : IsEarly assume
unfolding assume
early_assume = early_then _ _ early_call_words (λ _. early_then _ _ early_void (λ _. early_then _ _ early_assume_callee (λ _. early_then _ _ (early_mark 40) (λ _. early_then _ _ (early_of_width 1) (λ x. early_then _ _ early_close_call (λ _. early_done (op.Assume x)))))))

pub early_operation : IsEarly operation
unfolding operation
early_operation =
    early_some (λ ts. binary_of (word_at ts)) (λ kind ts. binary kind (drop 1 ts)) _ (looks_of_word binary_of) (λ kind. early_behind (binary kind) (early_binary kind))
    (early_some (λ ts. cast_of (word_at ts)) (λ kind ts. conversion kind (drop 1 ts)) _ (looks_of_word cast_of) (λ kind. early_behind (conversion kind) (early_conversion kind))
    (early_if (λ ts. bytes_eq (word_at ts) (codes "icmp")) (λ ts. compare (drop 1 ts)) _ (looks_of_word (λ w. bytes_eq w (codes "icmp"))) (early_behind compare early_compare)
    (early_if (λ ts. bytes_eq (word_at ts) (codes "select")) (λ ts. select (drop 1 ts)) _ (looks_of_word (λ w. bytes_eq w (codes "select"))) (early_behind select early_select)
    (early_if (λ ts. is_call_word (word_at ts)) value_call (λ ts. stopped place.Form ts) (looks_of_word is_call_word) early_value_call (early_stopped place.Form)))))

-- ---- phis

pub early_entry : (w : ℕ) → IsEarly (entry w)
unfolding entry
early_entry w = early_then _ _ (early_mark 91) (λ _. early_then _ _ (early_operand w) (λ x. early_then _ _ (early_mark 44) (λ _. early_then _ _ (early_name kinds.Local place.Other) (λ from. early_then _ _ (early_mark 93) (λ _. early_done (record { value = x; from = from }))))))

pub early_behind_comma : IsEarly behind_comma
unfolding behind_comma
early_behind_comma = early_if (mark_at 91) (λ ts. Done true ts) _ (looks_mark 91) (early_done true) (early_then _ _ early_metadatum (λ _. early_then _ _ early_metadatum (λ _. early_done false)))

pub early_another : IsEarly another
unfolding another
early_another = early_if (mark_at 44) (λ ts. behind_comma (drop 1 ts)) (λ ts. Done false ts) (looks_mark 44) (early_behind behind_comma early_behind_comma) (early_done false)

pub follows_take : (follows : Bool) (ts rest : List Tok) → Follows follows ts rest → length rest ≤ length ts
follows_take true ts rest comma = omega (arith, ap length comma.1)
follows_take false ts rest (pairs, are) = omega (arith, (metadata_leave pairs ts rest are).takes)

pub entries_settle : (w n : ℕ) (so_far : List PhiEntry) (ts : List Tok) → length ts ≤ n → entries w n so_far ts ≡ entries w (suc n) so_far ts
unfolding entries entry mark mark_at
entries_settle w zero so_far [] fits = refl
entries_settle w zero so_far (t ∷ ts) fits = absurd (omega arith)
entries_settle w (suc n) so_far ts fits = then_same (entry w ts) _ _ (weaken (entry_sound w ts) (λ e a is. then_same (another a) _ _ (weaken (another_sound a) (λ follows b next.
    if_same follows _ _ _ _ (λ _. entries_settle w n (so_far ++ e ∷ []) b (omega (arith, fits, (entry_leaves w e ts a is).takes, follows_take follows a b next))) (λ _. refl)))))

pub early_entries : (w n : ℕ) (so_far : List PhiEntry) → IsEarly (entries w n so_far)
unfolding entries
early_entries w zero so_far = early_ran_out
early_entries w (suc n) so_far = early_then _ _ (early_entry w) (λ e. early_then _ (λ follows ts. entries_behind (entries w n) follows (so_far ++ e ∷ []) ts) early_another (λ follows. go e follows (early_entries w n (so_far ++ e ∷ []))))
  where
    go : (e : PhiEntry) (follows : Bool) → IsEarly (entries w n (so_far ++ e ∷ [])) → IsEarly (λ ts. entries_behind (entries w n) follows (so_far ++ e ∷ []) ts)
    go e true ih = ih
    go e false ih = early_done (so_far ++ e ∷ [])

pub early_phi : (r : List ℕ) → IsEarly (phi r)
unfolding phi
early_phi r = early_then _ _ early_width (λ w. early_then (λ ts. entries w (length ts) [] ts) (λ es ts. Done (record { name = r; width = w; entries = es }) ts)
    (early_within (λ n. entries w n []) (settles_from _ (λ n ts fits. entries_settle w n [] ts fits)) (λ n. early_entries w n [])) (λ es. early_done (record { name = r; width = w; entries = es })))

-- ---- terminators

pub early_return_value : IsEarly return_value
unfolding return_value
early_return_value = early_if (λ ts. bytes_eq (word_at ts) (codes "void")) (λ ts. Done end.RetVoid (drop 1 ts)) _ (looks_of_word (λ w. bytes_eq w (codes "void"))) (early_taken (λ _. end.RetVoid) (looks_nothing end.RetVoid))
    (early_then _ _ early_typed (λ x. early_done (end.Ret x.0 x.1)))

pub early_branch : IsEarly branch
unfolding branch
early_branch = early_if (λ ts. bytes_eq (word_at ts) (codes "label")) _ _ (looks_of_word (λ w. bytes_eq w (codes "label"))) (early_then target (λ to ts. Done (end.Br to) ts) early_target (λ to. early_done (end.Br to)))
    (early_then _ _ (early_keyword (codes "i1")) (λ _. early_then _ _ (early_operand 1) (λ x. early_then _ _ early_next_target (λ left. early_then _ _ early_next_target (λ right. early_done (end.CondBr x left right))))))

pub early_case : IsEarly case
unfolding case
early_case = early_then _ _ early_width (λ w. early_then _ _ (early_literal w) (λ n. early_then _ _ early_next_target (λ to. early_done (record { width = w; value = n; to = to }))))

pub cases_settle : (n : ℕ) (so_far : List Case) (ts : List Tok) → length ts ≤ n → cases n so_far ts ≡ cases (suc n) so_far ts
unfolding cases case width width_of word_at mark_at
cases_settle zero so_far [] fits = refl
cases_settle zero so_far (t ∷ ts) fits = absurd (omega arith)
cases_settle (suc n) so_far ts fits = if_same (mark_at 93 ts) _ _ _ _ (λ _. refl) (λ _. then_same (case ts) _ _ (weaken (case_sound ts) (λ c a is. cases_settle n (so_far ++ c ∷ []) a (omega (arith, fits, (case_leaves c ts a is).takes)))))

pub early_cases : (n : ℕ) (so_far : List Case) → IsEarly (cases n so_far)
unfolding cases
early_cases zero so_far = early_ran_out
early_cases (suc n) so_far = early_if (mark_at 93) (λ ts. Done so_far (drop 1 ts)) _ (looks_mark 93) (early_taken (λ _. so_far) (looks_nothing so_far)) (early_then _ _ early_case (λ c. early_cases n (so_far ++ c ∷ [])))

pub early_switch : IsEarly switch
unfolding switch
early_switch = early_then _ _ early_typed (λ x. early_then _ _ early_next_target (λ default. early_then _ _ (early_mark 91) (λ _. early_then (λ ts. cases (length ts) [] ts) (λ cs ts. Done (end.Switch x.0 x.1 default cs) ts)
    (early_within (λ n. cases n []) (settles_from _ (λ n ts fits. cases_settle n [] ts fits)) (λ n. early_cases n [])) (λ cs. early_done (end.Switch x.0 x.1 default cs)))))

pub early_terminator : IsEarly terminator
unfolding terminator
early_terminator =
    early_if (λ ts. bytes_eq (word_at ts) (codes "ret")) (λ ts. return_value (drop 1 ts)) _ (looks_of_word (λ w. bytes_eq w (codes "ret"))) (early_behind return_value early_return_value)
    (early_if (λ ts. bytes_eq (word_at ts) (codes "br")) (λ ts. branch (drop 1 ts)) _ (looks_of_word (λ w. bytes_eq w (codes "br"))) (early_behind branch early_branch)
    (early_if (λ ts. bytes_eq (word_at ts) (codes "switch")) (λ ts. switch (drop 1 ts)) _ (looks_of_word (λ w. bytes_eq w (codes "switch"))) (early_behind switch early_switch)
    (early_if (λ ts. bytes_eq (word_at ts) (codes "unreachable")) (λ ts. Done end.Unreachable (drop 1 ts)) (λ ts. stopped place.Keyword ts) (looks_of_word (λ w. bytes_eq w (codes "unreachable"))) (early_taken (λ _. end.Unreachable) (looks_nothing end.Unreachable)) (early_stopped place.Keyword))))
