-- Names of operands and labels that are all there, part by part.
use Rattle.std.proofs.Common.{◌≡◌, ◌<◌, ℕ, false, List, [], ◌∷◌, length, get_or, Option, Some, None, refl, sym, subst}
use Rattle.std.specs.Option.{is_some}
use Rattle.std.specs.Prelude.{All}
use Rattle.std.specs.List.{flat_map}
use Rattle.std.proofs.lemmas.List.Elements.{All-nil, All-cons, All-get_or}
use Rattle.ll_tree.specs.declared.block.PhiEntry.{PhiEntry}
use Rattle.ll_rules.specs.Items.{Part, Use, Goal}
use Rattle.ll_item_rules.specs.Lacking.{lacking_value, lacking_label, lacking_in, lacking_name, or_else}

both : (first rest : Option (List ℕ)) → is_some (or_else first rest) ≡ false → (is_some first ≡ false) × (is_some rest ≡ false)
both None rest e = (refl, e)
both (Some name) rest e = absurd cc

module _ (values : List (List ℕ × ℕ)) (labels : List (List ℕ)) where
  abbrev pub IsNamed : Part → Type 0
  IsNamed part = is_some (lacking_in values labels part) ≡ false

  all_named : (parts : List Part) → is_some (lacking_name values labels parts) ≡ false → All IsNamed parts
  all_named [] e = All-nil IsNamed
  all_named (part ∷ parts) e =
      let first = both (lacking_in values labels part) (lacking_name values labels parts) e in
      All-cons IsNamed part parts first.0 (all_named parts first.1)

  pub part_named : (parts : List Part) (i : ℕ) (part : Part) → is_some (lacking_name values labels parts) ≡ false → i < length parts → part ≡ get_or parts i part → IsNamed part
  part_named parts i part e within is = subst IsNamed (sym is) (All-get_or IsNamed parts i part within (all_named parts e))

  abbrev pub IsNamedEntry : PhiEntry → Type 0
  IsNamedEntry entry = (is_some (lacking_value values entry.value) ≡ false) × (is_some (lacking_label labels entry.from) ≡ false)

  abbrev pub entry_parts : ℕ → PhiEntry → List Part
  entry_parts width entry = Use entry.value width ∷ Goal entry.from ∷ []

  entries_named : (width : ℕ) (entries : List PhiEntry) → is_some (lacking_name values labels (flat_map (entry_parts width) entries)) ≡ false → All IsNamedEntry entries
  entries_named width [] e = All-nil IsNamedEntry
  entries_named width (entry ∷ entries) e =
      let first = both (lacking_value values entry.value) (or_else (lacking_label labels entry.from) (lacking_name values labels (flat_map (entry_parts width) entries))) e in
      let next = both (lacking_label labels entry.from) (lacking_name values labels (flat_map (entry_parts width) entries)) first.1 in
      All-cons IsNamedEntry entry entries (first.0, next.0) (entries_named width entries next.1)

  pub entry_named : (width : ℕ) (entries : List PhiEntry) (i : ℕ) (entry : PhiEntry) → is_some (lacking_name values labels (flat_map (entry_parts width) entries)) ≡ false → i < length entries → entry ≡ get_or entries i entry → IsNamedEntry entry
  entry_named width entries i entry e within is = subst IsNamedEntry (sym is) (All-get_or IsNamedEntry entries i entry within (entries_named width entries e))
