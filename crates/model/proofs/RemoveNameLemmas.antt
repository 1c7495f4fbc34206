-- A volume stays one where a name is taken away.
use Rattle.std.proofs.Common.{◌≡◌, ◌≢◌, ◌⊎◌, inl, inr, ℕ, List, [], ◌∷◌, ◌++◌, true, false, Option, Some, None, is_some, IsSome, refl, sym, ap, subst, ◌∙◌, arith}
use Rattle.std.proofs.lemmas.Bool.{cases_Bool, cases_eq, cond-false, false≢true, false_from_ne_true}
use Rattle.model.specs.declared.attributes.Attributes.{Attributes}
use Rattle.model.specs.Paths.{Name, Path, path_eq}
use Rattle.model.specs.Trees.{Description, IsUsed}
use Rattle.model.specs.Volumes.{file_node, Volume, tree_of, Entries, entries, enter, number_at, with_edge, is_file_node, is_directory_node, IsGraph, HasNames, released, unnamed}
use Rattle.model.proofs.WalkLemmas.{number_at-push, number_at-put, edge_from, edge_other, same_path}
use Rattle.model.proofs.CountLemmas.{same_count, one_less}
use Rattle.model.proofs.VolumeLemmas.{ends, last_step, alone, directory_no_file}
use Rattle.model.proofs.SweepLemmas.{found_number}
use Rattle.model.proofs.KeptLemmas.{Kept, kept_through, entry_keeps, released_keeps, entries-entry, entries-released, some_value, same_or_not, pair_same, less_none, released_other, released_here, entry_was, less_was}

pub edges-unnamed : (v : Volume) (k : ℕ) (b : Name) (n : ℕ) → is_directory_node (v k) ≡ true → entries v k b ≡ Some n → ((x : Name) → entries v n x ≡ None) → entries (unnamed k b v) ≡ with_edge k b None (entries v)
edges-unnamed v k b n k_is there bare =
    entries-entry k b None (released (entries v k b) v) ((released_keeps (entries v k b) v k (λ is. let none : None ≡ Some k = sym (empty k b is) ∙ is in cc)).directory ∙ k_is)
    ∙ ap (with_edge k b None) (entries-released (entries v k b) v empty)
  where
    empty : (m : ℕ) (x : Name) → entries v k b ≡ Some m → entries v m x ≡ None
    empty m x is = let same : Some m ≡ Some n = sym is ∙ there in let one : m ≡ n = cc in subst (λ j. entries v j x ≡ None) (sym one) (bare x)

module _ (v : Volume) (volume : IsGraph v) (w : Path) (b : Name) (k n : ℕ) (at_k : number_at (entries v) w ≡ Some k) (k_is : is_directory_node (v k) ≡ true) (there : entries v k b ≡ Some n) (bare : (x : Name) → entries v n x ≡ None) where
  abbrev e : Entries
  e = entries v

  abbrev less : Volume
  less = released (e k b) v

  abbrev new : Volume
  new = unnamed k b v

  is_n : (m : ℕ) → e k b ≡ Some m → m ≡ n
  is_n m is = let same : Some m ≡ Some n = sym is ∙ there in cc

  edges : entries new ≡ with_edge k b None e
  edges = edges-unnamed v k b n k_is there bare

  keeps : (m : ℕ) → (e k b ≡ Some m → is_file_node (v m) ≡ true) → Kept (v m) (new m)
  keeps m a_file = kept_through (v m) (less m) (new m) (released_keeps (e k b) v m a_file) (entry_keeps k b None less m)

  abbrev IsOld : ℕ → Name → ℕ → Type 0
  IsOld j y m = (j ≡ k → y ≢ b) × (e j y ≡ Some m)

  edge_of : (j : ℕ) (y : Name) (m : ℕ) → entries new j y ≡ Some m → IsOld j y m
  edge_of j y m is =
      elim (edge_from k j b y None e (Some m) (ap (λ f. f j y) (sym edges) ∙ is)) [ inl (same, name, to) ↦ cc | inr old ↦ old ]

  old_kept : (j : ℕ) (y : Name) (m : ℕ) → IsOld j y m → Kept (v m) (new m)
  old_kept j y m old =
      keeps m (λ target. elim (cases_Bool (is_file_node (v m))) [
        | inl a_file ↦ a_file
        | inr no_file ↦ let same = volume.naming.once j k m y b old.1 target no_file in absurd (old.0 same.0 same.1)
      ])

  new_edge : (j : ℕ) (y : Name) → (j ≡ k → y ≢ b) → entries new j y ≡ e j y
  new_edge j y other = ap (λ f. f j y) edges ∙ edge_other k j b y None e other

  count_new : (m : ℕ) (attributes : Attributes) (links : ℕ) (bytes : List ℕ) → new m ≡ Some (file_node attributes links bytes) → HasNames (entries new) m links
  count_new m attributes links bytes is =
      let was : less m ≡ Some (file_node attributes links bytes) = entry_was attributes links bytes k b None less m is in
      elim (cases_eq m n) [
        | inl same ↦
            let target : e k b ≡ Some m = there ∙ ap (λ i. Some i) (sym same) in
            let before = less_was attributes links bytes (v m) (sym (released_here (e k b) v m target) ∙ was) in
            let fewer = one_less (λ (c : ℕ × Name). e c.0 c.1 ≡ Some m) (k, b) before.0 same_or_not target (volume.counts m attributes before.0 bytes before.1) in
            subst (HasNames (entries new) m) (omega (arith, before.2, fewer.1))
            (same_count (λ (c : ℕ × Name). (e c.0 c.1 ≡ Some m) × (c ≢ (k, b))) (λ (c : ℕ × Name). entries new c.0 c.1 ≡ Some m) fewer.0 (λ (j, y). (
              (λ old. new_edge j y (λ is_k name. old.1 (pair_same j k y b is_k name)) ∙ old.0),
              (λ now. let old = edge_of j y m now in (old.1, λ pair. old.0 (ap (λ (c : ℕ × Name). c.0) pair) (ap (λ (c : ℕ × Name). c.1) pair))),
            )) fewer.2)
        | inr other ↦
            let target : e k b ≢ Some m = λ t. other (is_n m t) in
            same_count (λ (c : ℕ × Name). e c.0 c.1 ≡ Some m) (λ (c : ℕ × Name). entries new c.0 c.1 ≡ Some m) links (λ (j, y). (
              (λ old. new_edge j y (λ is_k name. target (ap (λ i. e i b) (sym is_k) ∙ ap (λ x. e j x) (sym name) ∙ old)) ∙ old),
              (λ now. (edge_of j y m now).1),
            )) (volume.counts m attributes links bytes (sym (released_other (e k b) v m target) ∙ was))
      ]

  nothing_below : (x : Name) → number_at e ((w ++ b ∷ []) ++ x ∷ []) ≡ None
  nothing_below x =
      number_at-push e (w ++ b ∷ []) x ∙ ap (λ o. enter e o x) (number_at-push e w b ∙ ap (λ o. enter e o b) at_k ∙ there) ∙ bare x

  reached_new : (m : ℕ) → IsSome (new m) → is_file_node (new m) ≡ false → (r : Path) × (number_at (entries new) r ≡ Some m)
  reached_new m some no_file =
      elim (cases_Bool (is_file_node (v m))) [
        | inl a_file ↦ absurd (false≢true (sym no_file ∙ (keeps m (λ t. a_file)).file ∙ a_file))
        | inr plain ↦ elim (cases_eq m n) [
          | inl same ↦
              let none : is_some (less m) ≡ false = ap is_some (released_here (e k b) v m (there ∙ ap (λ i. Some i) (sym same)) ∙ less_none (v m) plain) in
              absurd (false≢true (sym none ∙ sym (entry_keeps k b None less m).some ∙ some))
          | inr other ↦
              let kept_m = keeps m (λ t. absurd (other (is_n m t))) in
              let old = volume.naming.reached m (sym kept_m.some ∙ some) plain in (
                old.0,
                ap (λ f. number_at f old.0) edges
                    ∙ number_at-put e w b k None at_k (λ s is. alone v volume s w k is at_k (directory_no_file (v k) k_is)) nothing_below (λ x. refl) old.0
                    ∙ cond-false (path_eq old.0 (w ++ b ∷ [])) None (number_at e old.0) (false_from_ne_true (path_eq old.0 (w ++ b ∷ [])) (λ t. other (is_n m (sym (number_at-push e w b ∙ ap (λ o. enter e o b) at_k) ∙ ap (number_at e) (sym (same_path old.0 (w ++ b ∷ []) t)) ∙ old.1))))
                    ∙ old.1,
              )
        ]
      ]

  pub volume-unnamed : IsGraph new
  volume-unnamed = record {
    naming = record {
      root = (keeps 3 (λ t. absurd (volume.naming.not_root k b t))).directory ∙ volume.naming.root;
      not_root = λ j y is. volume.naming.not_root j y (edge_of j y 3 is).1;
      used = λ j m y is. (old_kept j y m (edge_of j y m is)).some ∙ volume.naming.used j m y (edge_of j y m is).1;
      once = λ j i m y z at_y at_z no_file. volume.naming.once j i m y z (edge_of j y m at_y).1 (edge_of i z m at_z).1 (sym (old_kept j y m (edge_of j y m at_y)).file ∙ no_file);
      names = λ j y some. let m = some_value (entries new j y) some in volume.naming.names j y (ap is_some (edge_of j y m.0 m.1).1);
      reached = reached_new;
    };
    counts = count_new;
  }

  -- what stands somewhere afterwards, or is open, has its bytes and its mode
  pub unnamed_used : (table : ℕ → Option Description) → ((d : ℕ) (f : Description) → table d ≡ Some f → is_file_node (v f.number) ≡ true) → (m : ℕ) → IsUsed (tree_of new table) m → Kept (v m) (new m)
  unnamed_used table files m (inr (i, f, is, same)) = keeps m (λ target. ap (λ j. is_file_node (v j)) (sym same) ∙ files i f is)
  unnamed_used table files m (inl (r, o, is, same)) = by_end (ends r)
    where
      at_r : number_at (entries new) r ≡ Some m
      at_r = found_number new (number_at (entries new) r) o m is same

      by_end : (r ≡ []) ⊎ ((u : Path) × (x : Name) × (r ≡ u ++ x ∷ [])) → Kept (v m) (new m)
      by_end (inl empty) =
          let root : Some 3 ≡ Some m = ap (number_at (entries new)) (sym empty) ∙ at_r in
          let three : 3 ≡ m = cc in
          keeps m (λ target. absurd (volume.naming.not_root k b (target ∙ ap (λ j. Some j) (sym three))))
      by_end (inr (u, x, pushed)) =
          let last = last_step (entries new) u x m (ap (number_at (entries new)) (sym pushed) ∙ at_r) in
          old_kept last.0 x m (edge_of last.0 x m last.2)
