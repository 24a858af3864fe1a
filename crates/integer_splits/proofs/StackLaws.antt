-- The halves that wait: one more, and the innermost taken.
use Rattle.std.proofs.Common.{◌≡◌, ℕ, ◌+◌, ◌<◌, ◌≤◌, List, [], ◌∷◌, ◌++◌, append_assoc, length, length-append, take, ℤ, pos, ◌+ℤ◌, All, refl, sym, ap, ◌∙◌, subst, arith}
use Rattle.std.specs.Prelude.{reverse}
use Rattle.std.specs.Int.{w128}
use Rattle.std.proofs.lemmas.Int.{fits_signed_from_abs}
use Rattle.std.proofs.lemmas.List.{reverse-append, reverse-reverse, length-reverse, take_at, append-nil}
use Rattle.std.proofs.lemmas.List.Elements.{All-nil, All-cons, All-append, All-head, All-tail}
use Rattle.wx_num.specs.declared.excess.NumOp.TheVariants.{Plus}
use Rattle.mix_system.specs.declared.literal.Lit.{Lit}
use Rattle.mix_system.specs.declared.farkas.Farkas.{Farkas}
use Rattle.mix_system.specs.declared.row.Part.{Part}
use Rattle.mix_system.specs.Tally.{halving_depth}
use Rattle.mix_system.specs.Calm.{IsCalm, IsSmall}
use Rattle.mix_system.specs.System.{IsWellFormed}
use Rattle.mix_system.proofs.SizeLaws.{unsigned_abs-add}
use Rattle.proof_term.specs.declared.tree.Node.{Node}
use Rattle.proof_term.specs.declared.tree.Node.TheVariants.{Leaf, Split}
use Rattle.proof_term.specs.Refutes.{low_half, high_half}
use Rattle.proof_term.specs.Steps.{node_steps, StaysWithin, NodeNames}
use Rattle.bounded_simplex.specs.InForce.{BoundChanges}
use Rattle.bounded_simplex.specs.Combination.{AreSmall, IsRefutation, IsCalmBox}
use Rattle.integer_splits.specs.Boxes.{with_splits, IsTreeTo}
use Rattle.integer_splits.specs.Halving.{IsHalving}
use Rattle.integer_splits.specs.Stack.{Wait, Stand, CanBeTaken, IsHalved, IsTaken, IsLast}
use Rattle.integer_splits.specs.declared.half.Half.{Half}
use Rattle.integer_splits.specs.declared.halving.Halving.{Halving}
use Rattle.integer_splits.proofs.DepthLaws.{room_at_first, at_small, low_room, high_room}
use Rattle.integer_splits.proofs.TreeLaws.{tree_leaf, tree_split}

split_fits : (rows : List (List Part)) (var : ℕ) (at : ℤ) → IsSmall at → All StaysWithin (node_steps rows (Split var at))
split_fits rows var at small =
    All-cons StaysWithin (record { op = Plus; x = at; y = pos 1 }) [] (fits_signed_from_abs w128 (at +ℤ pos 1) (omega (arith, unsigned_abs-add at (pos 1), small))) (All-nil StaysWithin)

All-reversed : {X : Type 0} (P : X → Type 0) (xs : List X) → All P xs → All P (reverse xs)
All-reversed P [] all = all
All-reversed P (x ∷ xs) all =
    subst (All P) (sym (reverse-append (x ∷ []) xs))
    (All-append P (reverse xs) (x ∷ []) (All-reversed P xs (All-tail P x xs all)) (All-cons P x [] (All-head P x xs all) (All-nil P)))

module _ (base : BoundChanges) where
  -- what waits over some splits waits over more of them
  wait_longer : (splits more : List Lit) (halves : List Half) (left : List (List Lit)) → Wait base splits halves left → Wait base (splits ++ more) halves left
  wait_longer splits more [] left wait = wait
  wait_longer splits more (half ∷ halves) [] wait = absurd wait
  wait_longer splits more (half ∷ halves) (box ∷ left) (front, is, rest) = (
    front,
    record {
      rest = is.rest ++ more;
      split = ap (λ s. s ++ more) is.split ∙ append_assoc front is.rest more;
      below = omega (arith, is.below, length-append is.rest more);
      mark = is.mark;
      known = is.known;
      small = is.small;
      is = is.is;
      room = is.room;
    },
    rest,
  )

  -- each half that waits can be taken
  pub wait_taken : (splits : List Lit) (halves : List Half) (left : List (List Lit)) → length base.changes + halving_depth base.system ≤ base.room → Wait base splits halves left → All (CanBeTaken (with_splits base splits)) halves
  wait_taken splits [] left room wait = All-nil (CanBeTaken (with_splits base splits))
  wait_taken splits (half ∷ halves) [] room wait = absurd wait
  wait_taken splits (half ∷ halves) (box ∷ left) room (front, is, rest) =
      let inner = wait_taken splits halves left room (subst (λ s. Wait base s halves left) (sym is.split) (wait_longer front is.rest halves left rest)) in
      let size = length-append front is.rest in
      let whole = length-append base.changes splits in
      let box_size = length-append front (high_half half.var half.at ∷ []) in
      let first : CanBeTaken (with_splits base splits) half = record {
        mark = omega (arith, is.mark, size, whole, ap length is.split);
        spare = omega (arith, is.mark, box_size, ap length is.is, is.room.room, room);
        known = is.known;
        small = is.small;
      } in
      All-cons (CanBeTaken (with_splits base splits)) half halves first inner

  -- one box for each half, and fewer halves than splits
  pub wait_length : (splits : List Lit) (halves : List Half) (left : List (List Lit)) → Wait base splits halves left → length left ≡ length halves
  wait_length splits [] left wait = ap length wait
  wait_length splits (half ∷ halves) [] wait = absurd wait
  wait_length splits (half ∷ halves) (box ∷ left) (front, is, rest) = omega (arith, wait_length front halves left rest)

  pub wait_fewer : (splits : List Lit) (halves : List Half) (left : List (List Lit)) → Wait base splits halves left → length halves ≤ length splits
  wait_fewer splits [] left wait = omega arith
  wait_fewer splits (half ∷ halves) [] wait = absurd wait
  wait_fewer splits (half ∷ halves) (box ∷ left) (front, is, rest) =
      omega (arith, wait_fewer front halves left rest, is.below, length-append front is.rest, ap length is.split)

  -- at the beginning
  pub stand_first : AreSmall base → Stand base base [] []
  stand_first small = record {
    splits = [];
    is = ap (λ cs. record base { changes = cs }) (sym (append-nil base.changes));
    room = room_at_first base small;
    left = [];
    wait = refl;
    tree = record {
      leads = refl;
      names = All-nil (NodeNames base.system);
      numbers = All-nil StaysWithin;
      counted = refl;
    };
  }

  module _ (now : BoundChanges) (nodes : List Node) (halves : List Half) (stand : Stand base now nodes halves) where
    pub stand_calm : IsCalm base.system → IsWellFormed base.system → IsCalmBox now
    stand_calm calm formed = subst IsCalmBox (sym stand.is) (record { formed = formed; system = calm; small = stand.room.small })

    pub stand_taken : length base.changes + halving_depth base.system ≤ base.room → All (CanBeTaken now) halves
    stand_taken room =
        subst (λ b. All (CanBeTaken b) halves) (sym stand.is)
        (subst (All (CanBeTaken (with_splits base stand.splits))) (reverse-reverse halves) (All-reversed (CanBeTaken (with_splits base stand.splits)) (reverse halves) (wait_taken stand.splits (reverse halves) stand.left room stand.wait)))

    pub stand_few : length stand.left + 1 ≤ halving_depth base.system + 1
    stand_few = omega (arith, wait_length stand.splits (reverse halves) stand.left stand.wait, wait_fewer stand.splits (reverse halves) stand.left stand.wait, stand.room.room)

    pub stand_left : length stand.left ≡ length halves
    stand_left = wait_length stand.splits (reverse halves) stand.left stand.wait ∙ length-reverse halves

    -- a split
    pub stand_spare : length base.changes + halving_depth base.system ≤ base.room → (var : ℕ) (at : ℤ) → IsHalving now var at → length now.changes < now.room
    stand_spare room var at is =
        let deep = low_room base stand.splits var at (subst (λ b. IsHalving b var at) stand.is is) stand.room in
        subst (λ (b : BoundChanges). length b.changes < b.room) (sym stand.is)
        (omega (arith, length-append base.changes stand.splits, length-append stand.splits (low_half var at ∷ []), deep.room, room))

    pub stand_split : (halving : Halving) (new : BoundChanges) (more : List Node) (waiting : List Half) → IsHalving now halving.var halving.at
        → IsHalved halving now new nodes more halves waiting → Stand base new more waiting
    stand_split halving new more waiting is halved =
        let var = halving.var in
        let at = halving.at in
        let splits = stand.splits in
        let half : Half = record { mark = record { changes = length now.changes }; var = var; at = at } in
        let halving_is : IsHalving (with_splits base splits) var at = subst (λ b. IsHalving b var at) stand.is is in
        let small = at_small base splits var at halving_is stand.room in
        let turned : reverse waiting ≡ half ∷ reverse halves = ap reverse halved.waits ∙ reverse-append halves (half ∷ []) in
        record {
          splits = splits ++ low_half var at ∷ [];
          is = halved.bounded ∙ ap (λ (b : BoundChanges). record b { changes = b.changes ++ low_half var at ∷ [] }) stand.is
              ∙ ap (λ cs. record base { changes = cs }) (append_assoc base.changes splits (low_half var at ∷ []));
          room = low_room base splits var at halving_is stand.room;
          left = (splits ++ high_half var at ∷ []) ∷ stand.left;
          wait = subst (λ hs. Wait base (splits ++ low_half var at ∷ []) hs ((splits ++ high_half var at ∷ []) ∷ stand.left)) (sym turned) (
            splits,
            record {
              rest = low_half var at ∷ [];
              split = refl;
              below = omega arith;
              mark = ap (λ (b : BoundChanges). length b.changes) stand.is ∙ length-append base.changes splits;
              known = halving_is.within;
              small = small;
              is = refl;
              room = high_room base splits var at halving_is stand.room;
            },
            stand.wait,
          );
          tree = subst (λ ns. IsTreeTo base ns ((splits ++ low_half var at ∷ []) ∷ (splits ++ high_half var at ∷ []) ∷ stand.left)) (sym halved.added)
              (tree_split base nodes splits stand.left var at stand.tree halving_is (split_fits base.system.rows var at small));
        }

    -- a leaf, with a half that waits or without
    pub stand_leaf : (farkas : Farkas) (new : BoundChanges) (more : List Node) (waiting : List Half) → IsCalm base.system → IsWellFormed base.system → IsRefutation now farkas.parts
        → IsTaken farkas now new nodes more halves waiting → Stand base new more waiting
    stand_leaf farkas new more waiting calm formed is taken =
        let turned : reverse halves ≡ taken.half ∷ reverse waiting = ap reverse taken.waited ∙ reverse-append waiting (taken.half ∷ []) in
        next stand.left (subst (λ hs. Wait base stand.splits hs stand.left) turned stand.wait) stand.tree
      where
        refuted : IsRefutation (with_splits base stand.splits) farkas.parts
        refuted = subst (λ b. IsRefutation b farkas.parts) stand.is is

        numbers : All StaysWithin (node_steps base.system.rows (Leaf farkas))
        numbers = refuted.fit (record { formed = formed; system = calm; small = stand.room.small })

        next : (left : List (List Lit)) → Wait base stand.splits (taken.half ∷ reverse waiting) left → IsTreeTo base nodes (stand.splits ∷ left) → Stand base new more waiting
        next [] wait tree = absurd wait
        next (box ∷ left) (front, half, rest) tree =
            let high = high_half taken.half.var taken.half.at in
            let same : take taken.half.mark.changes (base.changes ++ stand.splits) ≡ base.changes ++ front =
            ap (take taken.half.mark.changes) (ap (λ s. base.changes ++ s) half.split ∙ sym (append_assoc base.changes front half.rest))
            ∙ take_at (base.changes ++ front) half.rest taken.half.mark.changes (length-append base.changes front ∙ sym half.mark) in
            record {
              splits = box;
              is = taken.bounded ∙ ap (λ (b : BoundChanges). record b { changes = take taken.half.mark.changes b.changes ++ high ∷ [] }) stand.is
                  ∙ ap (λ cs. record base { changes = cs }) (ap (λ cs. cs ++ high ∷ []) same ∙ append_assoc base.changes front (high ∷ []) ∙ ap (λ s. base.changes ++ s) (sym half.is));
              room = half.room;
              left = left;
              wait = subst (λ s. Wait base s (reverse waiting) left) (sym half.is) (wait_longer front (high ∷ []) (reverse waiting) left rest);
              tree = subst (λ ns. IsTreeTo base ns (box ∷ left)) (sym taken.added) (tree_leaf base nodes stand.splits (box ∷ left) farkas tree refuted refuted.known numbers);
            }

    pub stand_last : (farkas : Farkas) (more : List Node) → IsCalm base.system → IsWellFormed base.system → IsRefutation now farkas.parts → IsLast farkas nodes more halves → IsTreeTo base more []
    stand_last farkas more calm formed is last =
        let refuted = subst (λ b. IsRefutation b farkas.parts) stand.is is in
        let none : stand.left ≡ [] = subst (λ hs. Wait base stand.splits (reverse hs) stand.left) last.none stand.wait in
        subst (λ ns. IsTreeTo base ns []) (sym last.added)
        (tree_leaf base nodes stand.splits [] farkas (subst (λ l. IsTreeTo base nodes (stand.splits ∷ l)) none stand.tree) refuted refuted.known
        (refuted.fit (record { formed = formed; system = calm; small = stand.room.small })))

  -- one more half, or one less
  pub halved_longer : (halving : Halving) (old new : BoundChanges) (nodes more : List Node) (halves waiting : List Half) → IsHalved halving old new nodes more halves waiting
      → length waiting ≡ length halves + 1
  halved_longer halving old new nodes more halves waiting halved =
      let half : Half = record { mark = record { changes = length old.changes }; var = halving.var; at = halving.at } in
      ap length halved.waits ∙ length-append halves (half ∷ [])

  pub taken_shorter : (farkas : Farkas) (old new : BoundChanges) (nodes more : List Node) (halves waiting : List Half) → IsTaken farkas old new nodes more halves waiting
      → length halves ≡ length waiting + 1
  taken_shorter farkas old new nodes more halves waiting taken = ap length taken.waited ∙ length-append waiting (taken.half ∷ [])

  -- the same bounds, as a call leaves them
  pub stand_same : (now new : BoundChanges) (nodes : List Node) (halves : List Half) → new ≡ now → Stand base now nodes halves → Stand base new nodes halves
  stand_same now new nodes halves same stand = subst (λ b. Stand base b nodes halves) (sym same) stand
