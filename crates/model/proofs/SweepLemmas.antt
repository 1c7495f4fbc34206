-- What has neither path nor descriptor is just what a sweep drops.
use Rattle.std.proofs.Common.{◌≡◌, ◌≢◌, inl, inr, ℕ, zero, suc, ◌≤◌, ◌<◌, List, [], ◌∷◌, ◌++◌, Bool, true, false, ◌||◌, Option, Some, None, is_some, IsSome, refl, sym, ap, ◌∙◌, arith}
use Rattle.std.proofs.Math.Path.{fun_ext}
use Rattle.std.proofs.lemmas.Bool.{cases_Bool, cases_eq, cases_lt, or_left, or_right, eq-eqb, eqb-true, false≢true, cond-false}
use Rattle.model.specs.declared.limits.TheConstants.{OPEN_FILES}
use Rattle.model.specs.declared.attributes.Attributes.{Attributes}
use Rattle.model.specs.Paths.{Name, Path}
use Rattle.model.specs.Trees.{Tree, Object, number_of_object, Description, IsUsed}
use Rattle.model.specs.Edits.{IsSwept}
use Rattle.model.specs.Volumes.{Node, directory_node, file_node, link_node, Volume, Entries, names_in, entries, enter, number_at, object_of, object_at, bytes_of_node, attributes_of, tree_of, is_file_node, is_directory_node, IsGraph, HasNames, is_numbered, is_open, swept_node, swept}
use Rattle.model.proofs.WalkLemmas.{number_at-push}
use Rattle.model.proofs.VolumeLemmas.{ends, directory_some, enters_directory, directory_no_file, last_step}
use Rattle.model.proofs.ObjectLaws.{object_number}
use Rattle.model.proofs.OptionLaws.{some_same}

-- an orphan
abbrev pub IsOrphan : Option Node → Type 0
IsOrphan o = (attributes : Attributes) × (bytes : List ℕ) × (o ≡ Some (file_node attributes 0 bytes))

pub stays_named : (open_now : Bool) (o : Option Node) → ¬ IsOrphan o → swept_node open_now o ≡ o
stays_named open_now None named = refl
stays_named open_now (Some (directory_node attributes names)) named = refl
stays_named open_now (Some (file_node attributes zero bytes)) named = absurd (named (attributes, bytes, refl))
stays_named open_now (Some (file_node attributes (suc links) bytes)) named = refl
stays_named open_now (Some (link_node attributes text)) named = refl

pub stays_open : (o : Option Node) → swept_node true o ≡ o
stays_open None = refl
stays_open (Some (directory_node attributes names)) = refl
stays_open (Some (file_node attributes zero bytes)) = refl
stays_open (Some (file_node attributes (suc links) bytes)) = refl
stays_open (Some (link_node attributes text)) = refl

pub found_open : (table : ℕ → Option Description) (bound d n : ℕ) (f : Description) → d < bound → table d ≡ Some f → f.number ≡ n → is_open table bound n ≡ true
found_open table zero d n f below is same = absurd (omega (arith, below))
found_open table (suc bound) d n f below is same =
    elim (cases_eq d bound) [
      | inl last ↦ or_left (is_numbered (table bound) n) (is_open table bound n) (ap (λ i. is_numbered (table i) n) (sym last) ∙ ap (λ o. is_numbered o n) is ∙ eq-eqb f.number n same)
      | inr other ↦ or_right (is_numbered (table bound) n) (is_open table bound n) (found_open table bound d n f (omega (arith, below, other)) is same)
    ]

-- what is closed, and what it means
numbered_is : (o : Option Description) (n : ℕ) → is_numbered o n ≡ true → (f : Description) × (o ≡ Some f) × (f.number ≡ n)
numbered_is None n e = cc
numbered_is (Some f) n e = (f, refl, eqb-true f.number n e)

pub opened_by : (table : ℕ → Option Description) (bound n : ℕ) → is_open table bound n ≡ true → (d : ℕ) × (f : Description) × (table d ≡ Some f) × (f.number ≡ n)
opened_by table zero n e = cc
opened_by table (suc bound) n e =
    elim (cases_Bool (is_numbered (table bound) n)) [
      | inl t ↦ let f = numbered_is (table bound) n t in (bound, f.0, f.1, f.2)
      | inr f ↦ opened_by table bound n (ap (λ b. b || is_open table bound n) (sym f) ∙ e)
    ]

named_object : (n : ℕ) (o : Option Node) → IsSome o → (r : Object) × (object_of n o ≡ Some r) × (number_of_object r ≡ n)
named_object n None some = absurd (false≢true some)
named_object n (Some (directory_node attributes names)) some = (_, refl, refl)
named_object n (Some (file_node attributes links bytes)) some = (_, refl, refl)
named_object n (Some (link_node attributes text)) some = (_, refl, refl)

pub found_number : (v : Volume) (o : Option ℕ) (r : Object) (n : ℕ) → object_at v o ≡ Some r → number_of_object r ≡ n → o ≡ Some n
found_number v None r n e same = cc
found_number v (Some k) r n e same = ap (λ i. Some i) (sym (object_number k (v k) r e) ∙ same)

pub count_some : (e : Entries) (n links : ℕ) → HasNames e n (suc links) → (d : ℕ) × (x : Name) × (e d x ≡ Some n)
count_some e n links ((d, x), is, rest) = (d, x, is)

pub swept_names : (b : Bool) (o : Option Node) (x : Name) → names_in (swept_node b o) x ≡ names_in o x
swept_names b None x = refl
swept_names b (Some (directory_node attributes names)) x = refl
swept_names true (Some (file_node attributes zero bytes)) x = refl
swept_names false (Some (file_node attributes zero bytes)) x = refl
swept_names b (Some (file_node attributes (suc links) bytes)) x = refl
swept_names b (Some (link_node attributes text)) x = refl

pub none_from : (o : Option Node) → ¬ (o ≢ None) → o ≡ None
none_from None e = refl
none_from (Some o) e = absurd (e (λ is. cc))

module _ (v : Volume) (volume : IsGraph v) (table : ℕ → Option Description) (bounded : (d : ℕ) → OPEN_FILES ≤ d → table d ≡ None) where
  -- what is reached has a name
  not_orphan : (r : Path) (n : ℕ) → number_at (entries v) r ≡ Some n → ¬ IsOrphan (v n)
  not_orphan r n at_r (attributes, bytes, is) =
      elim (ends r) [
        | inl e ↦
            let three : 3 ≡ n = some_same (ap (number_at (entries v)) (sym e) ∙ at_r) in
            let root : is_directory_node (Some (file_node attributes 0 bytes)) ≡ true = ap is_directory_node (sym is ∙ ap v (sym three)) ∙ volume.naming.root in
            false≢true root
        | inr (u, x, e) ↦
            let last = last_step (entries v) u x n (ap (number_at (entries v)) (sym e) ∙ at_r) in
            volume.counts n attributes 0 bytes is (last.0, x) last.2
      ]

  object_stays : (r : Path) (o : Option ℕ) → number_at (entries v) r ≡ o → object_at (swept table v) o ≡ object_at v o
  object_stays r None is = refl
  object_stays r (Some n) is = ap (object_of n) (stays_named (is_open table OPEN_FILES n) (v n) (not_orphan r n is))

  pub objects-swept : (tree_of (swept table v) table).objects ≡ (tree_of v table).objects
  objects-swept =
      fun_ext (λ r.
      ap (λ e. object_at (swept table v) (number_at e r)) (fun_ext {f = entries (swept table v)} {g = entries v} (λ n. fun_ext (λ x. swept_names (is_open table OPEN_FILES n) (v n) x)))
      ∙ object_stays r (number_at (entries v) r) refl)

  pub used_stays : (n : ℕ) → IsUsed (tree_of v table) n → swept table v n ≡ v n
  used_stays n (inl (p, r, is, same)) = stays_named (is_open table OPEN_FILES n) (v n) (not_orphan p n (found_number v (number_at (entries v) p) r n is same))
  used_stays n (inr (d, f, is, same)) =
      elim (cases_lt d OPEN_FILES) [
        | inl below ↦ ap (λ b. swept_node b (v n)) (found_open table OPEN_FILES d n f below is same) ∙ stays_open (v n)
        | inr past ↦ let none : None ≡ Some f = sym (bounded d past) ∙ is in cc
      ]

  at_path : (n : ℕ) (p : Path) → number_at (entries v) p ≡ Some n → IsSome (v n) → IsUsed (tree_of v table) n
  at_path n p at_p some = let named = named_object n (v n) some in inl (p, named.0, ap (object_at v) at_p ∙ named.1, named.2)

  -- what a sweep leaves is used
  used_by : (n : ℕ) (o : Option Node) → v n ≡ o → swept_node (is_open table OPEN_FILES n) o ≢ None → IsUsed (tree_of v table) n
  used_by n None is stays = absurd (stays refl)
  used_by n (Some (directory_node attributes names)) is stays = let path = volume.naming.reached n (ap is_some is) (ap is_file_node is) in at_path n path.0 path.1 (ap is_some is)
  used_by n (Some (link_node attributes text)) is stays = let path = volume.naming.reached n (ap is_some is) (ap is_file_node is) in at_path n path.0 path.1 (ap is_some is)
  used_by n (Some (file_node attributes (suc links) bytes)) is stays =
      let name = count_some (entries v) n links (volume.counts n attributes (suc links) bytes is) in
      let a_directory = enters_directory (v name.0) name.1 n name.2 in
      let path = volume.naming.reached name.0 (directory_some (v name.0) a_directory) (directory_no_file (v name.0) a_directory) in
      at_path n (path.0 ++ name.1 ∷ []) (number_at-push (entries v) path.0 name.1 ∙ ap (λ o. enter (entries v) o name.1) path.1 ∙ name.2) (ap is_some is)
  used_by n (Some (file_node attributes zero bytes)) is stays =
      elim (cases_Bool (is_open table OPEN_FILES n)) [
        | inl t ↦ inr (opened_by table OPEN_FILES n t)
        | inr f ↦ absurd (stays (cond-false (is_open table OPEN_FILES n) _ _ f))
      ]

  pub not_unused : (n : ℕ) → swept_node (is_open table OPEN_FILES n) (v n) ≢ None → IsUsed (tree_of v table) n
  not_unused n stays = used_by n (v n) refl stays

  -- a tree with these objects and these bytes of what is used, swept
  pub swept_from : (old : Tree) → (tree_of v table).objects ≡ old.objects → old.descriptors ≡ table → ((n : ℕ) → IsUsed (tree_of v table) n → (bytes_of_node (v n) ≡ old.bytes n) × (attributes_of (v n) ≡ old.attributes n)) → IsSwept old (tree_of (swept table v) table)
  swept_from old objects descriptors same = record {
    objects = objects-swept ∙ objects;
    descriptors = sym descriptors;
    kept = λ n used. let here = of_old n used in (ap bytes_of_node (used_stays n here) ∙ (same n here).0, ap attributes_of (used_stays n here) ∙ (same n here).1);
    gone = λ n unused. let none = none_from (swept_node (is_open table OPEN_FILES n) (v n)) (λ stays. unused (to_old n (not_unused n stays))) in (ap bytes_of_node none, ap attributes_of none);
  }
    where
      of_old : (n : ℕ) → IsUsed old n → IsUsed (tree_of v table) n
      of_old n (inl (p, r, is, number_is)) = inl (p, r, ap (λ f. f p) objects ∙ is, number_is)
      of_old n (inr (d, f, is, number_is)) = inr (d, f, ap (λ g. g d) (sym descriptors) ∙ is, number_is)

      to_old : (n : ℕ) → IsUsed (tree_of v table) n → IsUsed old n
      to_old n (inl (p, r, is, number_is)) = inl (p, r, ap (λ f. f p) (sym objects) ∙ is, number_is)
      to_old n (inr (d, f, is, number_is)) = inr (d, f, ap (λ g. g d) descriptors ∙ is, number_is)
