-- How many open files have no name.
use Rattle.std.proofs.Common.{◌≡◌, ◌≢◌, ◌<◌, ◌≤◌, ◌+◌, ◌==◌, inl, inr, ℕ, zero, suc, List, [], ◌∷◌, length, nat_eq, Bool, true, false, Option, Some, None, is_some, IsSome, count_by, refl, sym, ap, ◌∙◌, arith}
use Rattle.std.proofs.lemmas.Bool.{cases_Bool, cases_eq, cond-true, cond-false, eq-eqb, false≢true, ne_eqb}
use Rattle.std.proofs.lemmas.List.{length-map}
use Rattle.std.proofs.lemmas.List.Sums.{count_by-le-length, sum_by-cons}
use Rattle.std.proofs.lemmas.Map.Keys.{IsDistinct-head, IsDistinct-tail}
use Rattle.std.specs.List.{AllByRecursion, IsDistinct}
use Rattle.std.specs.Map.{keys_of, lookup, values_of}
use Rattle.model.specs.Records.{count_orphans}
use Rattle.model.specs.declared.limits.Limits.{Limits}
use Rattle.model.specs.Volumes.{IsMounted, IsVolume, Node, Volume, directory_node, file_node, link_node, is_directory_node, is_open, is_orphan, swept_node}
use Rattle.model.specs.declared.limits.TheConstants.{OPEN_FILES}
use Rattle.descriptors.specs.Counts.{count_below, one_if}
use Rattle.descriptors.specs.Files.{Figures, figures_of, node_figures}
use Rattle.descriptors.specs.Fits.{FitsVolume}
use Rattle.descriptors.specs.Shared.{shared_at}
use Rattle.descriptors.specs.Slots.{slot_at}
use Rattle.descriptors.specs.Tables.{table_of}
use Rattle.descriptors.specs.declared.description.OpenDescription.{OpenDescription}
use Rattle.descriptors.specs.declared.shared.SharedFile.{SharedFile}
use Rattle.descriptors.specs.declared.table.Descriptors.{Descriptors}
use Rattle.descriptors.proofs.CountLemmas.{count_grows, count_more, count_none, count_same, count_within}
use Rattle.descriptors.proofs.LookLemmas.{open_somewhere, opened_number}
use Rattle.descriptors.proofs.TableLemmas.{has_descriptor}

-- ---- what has figures

-- it is a file, without a name where they say so
figured_orphans : (o : Option Node) (f : Figures) → node_figures o ≡ Some f → is_orphan o ≡ (f.links == 0)
figured_orphans None f e = cc
figured_orphans (Some (directory_node attributes names)) f e = cc
figured_orphans (Some (file_node attributes zero bytes)) f e = ap (λ (o : Option Figures). elim o [ Some g ↦ g.links == 0 | None ↦ true ]) e
figured_orphans (Some (file_node attributes (suc links) bytes)) f e =
    let many : suc links ≡ f.links = ap (λ (o : Option Figures). elim o [ Some g ↦ g.links | None ↦ 0 ]) e in
    sym (ne_eqb f.links 0 (λ none. absurd (omega (arith, many, none))))
figured_orphans (Some (link_node attributes text)) f e = cc

figured_some : (o : Option Node) (f : Figures) → node_figures o ≡ Some f → is_directory_node o ≡ false
figured_some None f e = cc
figured_some (Some (directory_node attributes names)) f e = cc
figured_some (Some (file_node attributes links bytes)) f e = refl
figured_some (Some (link_node attributes text)) f e = refl

figured_there : (o : Option Node) (f : Figures) → node_figures o ≡ Some f → IsSome o
figured_there None f e = cc
figured_there (Some o) f e = refl

-- what would be swept is no orphan where it stays
closed_orphan : (o : Option Node) → swept_node false o ≡ o → is_orphan o ≡ false
closed_orphan None e = refl
closed_orphan (Some (directory_node attributes names)) e = refl
closed_orphan (Some (file_node attributes zero bytes)) e = cc
closed_orphan (Some (file_node attributes (suc links) bytes)) e = refl
closed_orphan (Some (link_node attributes text)) e = refl

orphans_count : (inodes : ℕ) (v : Volume) → count_below (λ n. is_orphan (v n)) inodes ≡ count_orphans inodes v
unfolding count_below
orphans_count zero v = refl
orphans_count (suc n) v = ap (λ (k : ℕ). k + one_if (is_orphan (v n))) (orphans_count n v)

-- ---- entries with keys that differ

-- a file that is there, with no name
abbrev has_no_name : Option SharedFile → Bool
has_no_name None = false
has_no_name (Some f) = f.links == 0

absent : (k : ℕ) (es : List (ℕ × SharedFile)) → AllByRecursion (λ y. nat_eq k y ≡ false) (keys_of es) → lookup (nat_eq k) es ≡ None
absent k [] apart = refl
absent k (e ∷ es) apart = cond-false (nat_eq k e.0) (Some e.1) (lookup (nat_eq k) es) apart.0 ∙ absent k es apart.1

-- the first entry, and the others
first_found : (e : ℕ × SharedFile) (es : List (ℕ × SharedFile)) → lookup (nat_eq e.0) (e ∷ es) ≡ Some e.1
first_found e es = cond-true (nat_eq e.0 e.0) (Some e.1) (lookup (nat_eq e.0) es) (eq-eqb e.0 e.0 refl)

others_found : (e : ℕ × SharedFile) (es : List (ℕ × SharedFile)) (n : ℕ) → n ≢ e.0 → lookup (nat_eq n) (e ∷ es) ≡ lookup (nat_eq n) es
others_found e es n other = cond-false (nat_eq n e.0) (Some e.1) (lookup (nat_eq n) es) (ne_eqb n e.0 other)

still_found : (e : ℕ × SharedFile) (es : List (ℕ × SharedFile)) → lookup (nat_eq e.0) es ≡ None → (n : ℕ) → IsSome (lookup (nat_eq n) es) → lookup (nat_eq n) (e ∷ es) ≡ lookup (nat_eq n) es
still_found e es none n some =
    others_found e es n (λ same. false≢true (sym (ap is_some (ap (λ k. lookup (nat_eq k) es) same ∙ none)) ∙ some))

-- how many files have no name, counted by their numbers
pub count_values : (es : List (ℕ × SharedFile)) (m : ℕ) → IsDistinct nat_eq (keys_of es) → ((n : ℕ) → IsSome (lookup (nat_eq n) es) → n < m)
    → count_by (λ (f : SharedFile). f.links == 0) (values_of es) ≡ count_below (λ n. has_no_name (lookup (nat_eq n) es)) m
count_values [] m apart below = sym (count_none (λ n. false) m (λ n lt. refl))
count_values (e ∷ es) m apart below =
    let none = absent e.0 es (IsDistinct-head nat_eq e.0 (keys_of es) apart) in
    let rest = count_values es m (IsDistinct-tail nat_eq e.0 (keys_of es) apart) (λ n some. below n (ap is_some (still_found e es none n some) ∙ some)) in
    let more = sum_by-cons (λ (f : SharedFile). one_if (f.links == 0)) e.1 (values_of es) in
    let others = λ (n : ℕ) (other : n ≢ e.0). sym (ap has_no_name (others_found e es n other)) in
    let was : has_no_name (lookup (nat_eq e.0) es) ≡ false = ap has_no_name none in
    elim (cases_Bool (e.1.links == 0)) [
      | inl no_name ↦
          let one : one_if (e.1.links == 0) ≡ 1 = ap one_if no_name in
          let counted = count_more (λ n. has_no_name (lookup (nat_eq n) es)) (λ n. has_no_name (lookup (nat_eq n) (e ∷ es))) e.0 m (below e.0 (ap is_some (first_found e es))) others was (ap has_no_name (first_found e es) ∙ no_name) in
          omega (arith, more, one, rest, counted)
      | inr named ↦
          let none_more : one_if (e.1.links == 0) ≡ 0 = ap one_if named in
          let same = count_same (λ n. has_no_name (lookup (nat_eq n) es)) (λ n. has_no_name (lookup (nat_eq n) (e ∷ es))) m (λ n lt. at none named n) in
          omega (arith, more, none_more, rest, same)
    ]
  where
    at : lookup (nat_eq e.0) es ≡ None → (e.1.links == 0) ≡ false → (n : ℕ) → has_no_name (lookup (nat_eq n) es) ≡ has_no_name (lookup (nat_eq n) (e ∷ es))
    at none named n = elim (cases_eq n e.0) [
      | inl same ↦
          ap has_no_name (ap (λ k. lookup (nat_eq k) es) same ∙ none)
          ∙ sym (ap has_no_name (ap (λ k. lookup (nat_eq k) (e ∷ es)) same ∙ first_found e es) ∙ named)
      | inr other ↦ sym (ap has_no_name (others_found e es n other))
    ]

-- a descriptor is open for one of the files
abbrev is_held : List (ℕ × SharedFile) → Option OpenDescription → Bool
is_held es None = false
is_held es (Some d) = is_some (lookup (nat_eq d.number) es)

held_more : (e : ℕ × SharedFile) (es : List (ℕ × SharedFile)) → lookup (nat_eq e.0) es ≡ None → (o : Option OpenDescription) → is_held es o ≡ true → is_held (e ∷ es) o ≡ true
held_more e es none None held = absurd (false≢true held)
held_more e es none (Some d) held = ap is_some (still_found e es none d.number held) ∙ held

-- each file has a descriptor of its own
count_keys : (slots : ℕ → Option OpenDescription) (es : List (ℕ × SharedFile)) (m : ℕ) → IsDistinct nat_eq (keys_of es)
    → ((n : ℕ) → IsSome (lookup (nat_eq n) es) → (fd : ℕ) × (fd < m) × (d : OpenDescription) × (slots fd ≡ Some d) × (d.number ≡ n))
    → length es ≤ count_below (λ fd. is_held es (slots fd)) m
count_keys slots [] m apart open_for = omega arith
count_keys slots (e ∷ es) m apart open_for =
    let none = absent e.0 es (IsDistinct-head nat_eq e.0 (keys_of es) apart) in
    let rest = count_keys slots es m (IsDistinct-tail nat_eq e.0 (keys_of es) apart) (λ n some. open_for n (ap is_some (still_found e es none n some) ∙ some)) in
    let at = open_for e.0 (ap is_some (first_found e es)) in
    let grows =
    count_grows (λ fd. is_held es (slots fd)) (λ fd. is_held (e ∷ es) (slots fd)) at.0 m at.1 (λ fd held. held_more e es none (slots fd) held)
    (ap (is_held es) at.3 ∙ ap (λ k. is_some (lookup (nat_eq k) es)) at.4 ∙ ap is_some none)
    (ap (is_held (e ∷ es)) at.3 ∙ ap (λ k. is_some (lookup (nat_eq k) (e ∷ es))) at.4 ∙ ap is_some (first_found e es)) in
    omega (arith, rest, grows)

-- ---- of a table

shared_some : (o : Option SharedFile) → IsSome o → (s : SharedFile) × (o ≡ Some s)
shared_some None is = absurd (false≢true is)
shared_some (Some s) is = (s, refl)

module _ (t : Descriptors) (apart : IsDistinct nat_eq (keys_of t.files.files.entries)) where
  few_files : length t.files.files.entries ≤ OPEN_FILES
  few_files =
      let counted = count_keys (slot_at t.slots) t.files.files.entries OPEN_FILES apart (λ n some.
      let s = shared_some (shared_at t.files n) some in has_descriptor (slot_at t.slots) (shared_at t.files) t.consistent n s.0 s.1) in
      omega (arith, counted, count_within (λ fd. is_held t.files.files.entries (slot_at t.slots fd)) OPEN_FILES)

  pub orphans_few : count_by (λ (f : SharedFile). f.links == 0) (values_of t.files.files.entries) ≤ OPEN_FILES
  orphans_few =
      omega (arith, few_files, count_by-le-length (λ (f : SharedFile). f.links == 0) (values_of t.files.files.entries), length-map t.files.files.entries (λ (e : ℕ × SharedFile). e.1))

  module _ (limits : Limits) (v : Volume) (volume : IsVolume limits v) (mounted : IsMounted v (table_of t)) (fits : FitsVolume t v) where
    -- an open file has a number below the bound
    below : (n : ℕ) → IsSome (shared_at t.files n) → n < limits.inodes
    below n some =
        let s = shared_some (shared_at t.files n) some in
        let at = open_somewhere t n s.0 s.1 in
        let is : node_figures (v n) ≡ Some (figures_of at.2) = ap (λ k. node_figures (v k)) (sym at.4) ∙ fits.files at.0 at.2 at.3 in
        elim (volume.keeps.numbers n (figured_there (v n) (figures_of at.2) is)) [
          | inl root ↦ absurd (false≢true (sym (figured_some (v n) (figures_of at.2) is) ∙ ap (λ (k : ℕ). is_directory_node (v k)) root ∙ volume.graph.naming.root))
          | inr within ↦ within.1
        ]

    orphan_is : (n : ℕ) → has_no_name (shared_at t.files n) ≡ is_orphan (v n)
    orphan_is n = from (shared_at t.files n) refl
      where
        from : (o : Option SharedFile) → shared_at t.files n ≡ o → has_no_name o ≡ is_orphan (v n)
        from None e =
            let closed : is_open (table_of t) OPEN_FILES n ≡ false = sym (opened_number t n) ∙ ap is_some e in
            sym (closed_orphan (v n) (ap (λ b. swept_node b (v n)) (sym closed) ∙ mounted.is_swept n))
        from (Some s) e =
            let at = open_somewhere t n s e in
            let is : node_figures (v n) ≡ Some (figures_of at.2) = ap (λ k. node_figures (v k)) (sym at.4) ∙ fits.files at.0 at.2 at.3 in
            ap (λ k. k == 0) (sym at.5) ∙ sym (figured_orphans (v n) (figures_of at.2) is)

    pub orphans_counted : count_by (λ (f : SharedFile). f.links == 0) (values_of t.files.files.entries) ≡ count_orphans limits.inodes v
    orphans_counted =
        count_values t.files.files.entries limits.inodes apart below
        ∙ count_same (λ n. has_no_name (shared_at t.files n)) (λ n. is_orphan (v n)) limits.inodes (λ n lt. orphan_is n) ∙ orphans_count limits.inodes v
