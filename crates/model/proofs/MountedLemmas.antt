-- The tree of a volume is a tree.
use Rattle.std.proofs.Common.{◌≡◌, ◌≢◌, ◌⊎◌, inl, inr, ◌↔◌, ℕ, zero, suc, ◌≤◌, List, [], ◌∷◌, ◌++◌, fold, length, true, false, Option, Some, None, is_some, IsSome, IfSome, All, refl, sym, ap, subst, ◌∙◌, length-append, arith}
use Rattle.std.proofs.lemmas.Bool.{cases_Bool, false≢true}
use Rattle.std.proofs.lemmas.List.Sums.{fold-append}
use Rattle.std.proofs.lemmas.List.Elements.{All-nil, All-push}
use Rattle.model.specs.declared.limits.Limits.{Limits}
use Rattle.model.specs.declared.attributes.Attributes.{Attributes}
use Rattle.model.specs.declared.limits.TheConstants.{ROOT_NUMBER}
use Rattle.model.specs.Attributes.{FitAttributes}
use Rattle.model.specs.Counting.{CountsUpTo}
use Rattle.model.specs.Paths.{Name, Path, IsName, IsLinkText}
use Rattle.model.specs.Trees.{Tree, Object, symlink, file, number_of_object, is_directory, Description, StandsAtPath, IsOpen, IsUsed, IsTree}
use Rattle.model.specs.Volumes.{Node, directory_node, file_node, link_node, Volume, Entries, entries, enter, number_at, object_of, object_at, attributes_of, bytes_of_node, tree_of, is_file_node, is_directory_node, IsNode, IsVolume, IsMounted}
use Rattle.model.proofs.CountLemmas.{same_count}
use Rattle.model.proofs.WalkLemmas.{number_at-push}
use Rattle.model.proofs.VolumeLemmas.{ends, alone, enters_directory, last_step}
use Rattle.model.proofs.LinkLemmas.{links_are}
use Rattle.model.proofs.SweepLemmas.{found_number, not_unused}
use Rattle.model.proofs.OptionLaws.{some_same}
use Rattle.model.proofs.ObjectLaws.{directory_object}

-- what an object shows of its node
object_directory : (n : ℕ) (o : Option Node) → is_directory (object_of n o) ≡ true → is_directory_node o ≡ true
object_directory n None e = e
object_directory n (Some (directory_node attributes names)) e = refl
object_directory n (Some (file_node attributes links bytes)) e = e
object_directory n (Some (link_node attributes text)) e = e

object_file : (n : ℕ) (o : Option Node) (k : ℕ) → object_of n o ≡ Some (file k) → is_file_node o ≡ true
object_file n None k e = cc
object_file n (Some (directory_node attributes names)) k e = cc
object_file n (Some (file_node attributes links bytes)) k e = refl
object_file n (Some (link_node attributes text)) k e = cc

pub node_file : (n : ℕ) (o : Option Node) → is_file_node o ≡ true → object_of n o ≡ Some (file n)
node_file n None e = cc
node_file n (Some (directory_node attributes names)) e = cc
node_file n (Some (file_node attributes links bytes)) e = refl
node_file n (Some (link_node attributes text)) e = cc

object_link : (n : ℕ) (o : Option Node) (k : ℕ) (text : List ℕ) → object_of n o ≡ Some (symlink k text) → (attributes : Attributes) × (o ≡ Some (link_node attributes text))
object_link n None k text e = cc
object_link n (Some (directory_node attributes names)) k text e = cc
object_link n (Some (file_node attributes links bytes)) k text e = cc
object_link n (Some (link_node attributes other)) k text e = let same : other ≡ text = cc in (attributes, ap (λ t. Some (link_node attributes t)) same)

object_some : (n : ℕ) (o : Option Node) → is_some (object_of n o) ≡ is_some o
object_some n None = refl
object_some n (Some (directory_node attributes names)) = refl
object_some n (Some (file_node attributes links bytes)) = refl
object_some n (Some (link_node attributes text)) = refl

file_bytes : (o : Option Node) → is_some (bytes_of_node o) ≡ is_file_node o
file_bytes None = refl
file_bytes (Some (directory_node attributes names)) = refl
file_bytes (Some (file_node attributes links bytes)) = refl
file_bytes (Some (link_node attributes text)) = refl

attributes_some : (o : Option Node) → is_some (attributes_of o) ≡ is_some o
attributes_some None = refl
attributes_some (Some (directory_node attributes names)) = refl
attributes_some (Some (file_node attributes links bytes)) = refl
attributes_some (Some (link_node attributes text)) = refl

file_some : (o : Option Node) → is_file_node o ≡ true → IsSome o
file_some None e = e
file_some (Some o) e = refl

-- the limits of one object
size_kept : (limits : Limits) (o : Option Node) → IfSome o (IsNode limits) → IfSome (bytes_of_node o) (λ bytes. length bytes ≤ limits.file_bytes)
size_kept limits None good = tt
size_kept limits (Some (directory_node attributes names)) good = tt
size_kept limits (Some (file_node attributes links bytes)) good = good.2
size_kept limits (Some (link_node attributes text)) good = tt

fit_kept : (limits : Limits) (o : Option Node) → IfSome o (IsNode limits) → IfSome (attributes_of o) (FitAttributes limits.has_attributes)
fit_kept limits None good = tt
fit_kept limits (Some (directory_node attributes names)) good = good
fit_kept limits (Some (file_node attributes links bytes)) good = good.0
fit_kept limits (Some (link_node attributes text)) good = good.0

-- a walk that got nowhere stays there
pub nowhere : (e : Entries) (q : Path) → fold (enter e) None q ≡ None
nowhere e [] = refl
nowhere e (x ∷ q) = nowhere e q

module _ (limits : Limits) (v : Volume) (volume : IsVolume limits v) (table : ℕ → Option Description) (mounted : IsMounted v table) where
  abbrev t : Tree
  t = tree_of v table

  -- what stands at a path, by its number
  at_path : (p : Path) (o : Object) → t.objects p ≡ Some o → number_at (entries v) p ≡ Some (number_of_object o)
  at_path p o is = found_number v (number_at (entries v) p) o (number_of_object o) is refl

  object_is : (p : Path) (n : ℕ) → number_at (entries v) p ≡ Some n → t.objects p ≡ object_of n (v n)
  object_is p n at_p = ap (object_at v) at_p

  numbered : (o : Option ℕ) → IsSome (object_at v o) → (n : ℕ) × (o ≡ Some n)
  numbered None some = absurd (false≢true some)
  numbered (Some n) some = (n, refl)

  children_of : (o : Option ℕ) (x : Name) (q : Path) → IsSome (object_at v (fold (enter (entries v)) (enter (entries v) o x) q)) → is_directory (object_at v o) ≡ true
  children_of None x q some = absurd (false≢true (sym (ap (λ r. is_some (object_at v r)) (nowhere (entries v) q)) ∙ some))
  children_of (Some d) x q some = by_entry (entries v d x) refl
    where
      by_entry : (r : Option ℕ) → entries v d x ≡ r → is_directory (object_of d (v d)) ≡ true
      by_entry None is = absurd (false≢true (sym (ap (λ r. is_some (object_at v (fold (enter (entries v)) r q))) is ∙ ap (λ r. is_some (object_at v r)) (nowhere (entries v) q)) ∙ some))
      by_entry (Some m) is = ap is_directory (directory_object d (v d) (enters_directory (v d) x m is))

  above_is : (p q : Path) → q ≢ [] → IsSome (t.objects (p ++ q)) → is_directory (t.objects p) ≡ true
  above_is p [] longer some = absurd (longer refl)
  above_is p (x ∷ q) longer some = children_of (number_at (entries v) p) x q (sym (ap (λ o. is_some (object_at v o)) (fold-append (enter (entries v)) (Some ROOT_NUMBER) p (x ∷ q))) ∙ some)

  names_upto : (bound : ℕ) (p : Path) (n : ℕ) → length p ≤ bound → number_at (entries v) p ≡ Some n → All IsName p
  names_upto zero [] n short at_p = All-nil IsName
  names_upto zero (x ∷ p) n short at_p = absurd (omega arith)
  names_upto (suc bound) p n short at_p =
      elim (ends p) [
        | inl e ↦ subst (All IsName) (sym e) (All-nil IsName)
        | inr (u, x, e) ↦
            let last = last_step (entries v) u x n (ap (number_at (entries v)) (sym e) ∙ at_p) in
            let size : length p ≡ length (u ++ x ∷ []) = ap length e in
            subst (All IsName) (sym e)
            (All-push IsName u x (names_upto bound u last.0 (omega (arith, short, size, length-append u (x ∷ []))) last.1) (volume.graph.naming.names last.0 x (ap is_some last.2)))
      ]

  names_are : (p : Path) → IsSome (t.objects p) → All IsName p
  names_are p some = let n = numbered (number_at (entries v) p) some in names_upto (length p) p n.0 (omega arith) n.1

  single_is : (p q : Path) (o r : Object) → t.objects p ≡ Some o → t.objects q ≡ Some r → number_of_object o ≡ number_of_object r → (p ≡ q) ⊎ ((o ≡ file (number_of_object o)) × (r ≡ o))
  single_is p q o r at_p at_q same =
      let n : ℕ = number_of_object o in
      let p_is : number_at (entries v) p ≡ Some n = at_path p o at_p in
      let q_is : number_at (entries v) q ≡ Some n = at_path q r at_q ∙ ap (λ m. Some m) (sym same) in
      elim (cases_Bool (is_file_node (v n))) [
        | inl a_file ↦
            let is_file : object_of n (v n) ≡ Some (file n) = node_file n (v n) a_file in
            let o_is : o ≡ file n = some_same (sym at_p ∙ object_is p n p_is ∙ is_file) in
            inr (o_is, some_same (sym at_q ∙ object_is q n q_is ∙ is_file) ∙ sym o_is)
        | inr other ↦ inl (alone v volume.graph p q n p_is q_is other)
      ]

  -- a file that stands somewhere or is open
  file_used : (n : ℕ) → is_file_node (v n) ≡ true → StandsAtPath t file n ⊎ IsOpen t n
  file_used n a_file =
      elim (not_unused v volume.graph table mounted.bounded n (λ none. false≢true (sym (ap is_some (sym (mounted.is_swept n) ∙ none)) ∙ file_some (v n) a_file))) [
        | inl there ↦ inl (there.0, object_is there.0 n (found_number v (number_at (entries v) there.0) there.1 n there.2 there.3) ∙ node_file n (v n) a_file)
        | inr open_file ↦ inr open_file
      ]

  used_file : (n : ℕ) → StandsAtPath t file n ⊎ IsOpen t n → is_file_node (v n) ≡ true
  used_file n (inl there) = object_file n (v n) n (sym (object_is there.0 n (at_path there.0 (file n) there.1)) ∙ there.1)
  used_file n (inr (d, f, is, same)) = ap (λ k. is_file_node (v k)) (sym same) ∙ mounted.files d f is

  bytes_are : (n : ℕ) → IsSome (t.bytes n) ↔ (StandsAtPath t file n ⊎ IsOpen t n)
  bytes_are n = (λ some. file_used n (sym (file_bytes (v n)) ∙ some), λ used. file_bytes (v n) ∙ used_file n used)

  opened_is : (n : ℕ) (p : Path) (o : Object) → IsOpen t n → t.objects p ≡ Some o → number_of_object o ≡ n → o ≡ file n
  opened_is n p o open_file at_p same =
      some_same (sym at_p ∙ object_is p n (at_path p o at_p ∙ ap (λ m. Some m) same) ∙ node_file n (v n) (used_file n (inr open_file)))

  used_some : (n : ℕ) → IsUsed t n → IsSome (v n)
  used_some n (inl there) =
      sym (object_some n (v n)) ∙ ap is_some (sym (object_is there.0 n (found_number v (number_at (entries v) there.0) there.1 n there.2 there.3)) ∙ there.2)
  used_some n (inr open_file) = file_some (v n) (used_file n (inr open_file))

  attributes_are : (n : ℕ) → IsSome (t.attributes n) ↔ IsUsed t n
  attributes_are n = (
    λ some. not_unused v volume.graph table mounted.bounded n (λ none. false≢true (sym (ap is_some (sym (mounted.is_swept n) ∙ none)) ∙ sym (attributes_some (v n)) ∙ some)),
    λ used. attributes_some (v n) ∙ used_some n used,
  )

  texts_are : (p : Path) (n : ℕ) (text : List ℕ) → t.objects p ≡ Some (symlink n text) → IsLinkText limits.path_bytes text
  texts_are p n text is =
      let link = object_link n (v n) n text (sym (object_is p n (at_path p (symlink n text) is)) ∙ is) in
      let good : IfSome (Some (link_node link.0 text)) (IsNode limits) = subst (λ o. IfSome o (IsNode limits)) link.1 (volume.keeps.nodes n) in
      good.1

  entry_some : (o : Option ℕ) → ((n : ℕ) → o ≡ Some n → IsSome (v n)) → is_some (object_at v o) ≡ is_some o
  entry_some None used = refl
  entry_some (Some n) used = object_some n (v n) ∙ used n refl

  children_are : (p : Path) → is_directory (t.objects p) ≡ true → CountsUpTo limits.directory_names (λ x. IsSome (t.objects (p ++ x ∷ [])))
  children_are p is = by_number (number_at (entries v) p) refl
    where
      by_number : (o : Option ℕ) → number_at (entries v) p ≡ o → CountsUpTo limits.directory_names (λ x. IsSome (t.objects (p ++ x ∷ [])))
      by_number None at_p = absurd (false≢true (sym (ap (λ o. is_directory (object_at v o)) at_p) ∙ is))
      by_number (Some d) at_p =
          let counts = volume.keeps.children d in (
            counts.0,
            same_count (λ x. IsSome (entries v d x)) (λ x. IsSome (t.objects (p ++ x ∷ []))) counts.0
                (λ x. let same : is_some (t.objects (p ++ x ∷ [])) ≡ is_some (entries v d x) = ap (λ o. is_some (object_at v o)) (number_at-push (entries v) p x ∙ ap (λ o. enter (entries v) o x) at_p) ∙ entry_some (entries v d x) (λ n there. volume.graph.naming.used d n x there) in
                (λ some. same ∙ some, λ some. sym same ∙ some)) counts.1,
            counts.2,
          )

  no_links : (n : ℕ) → is_file_node (v n) ≡ false → CountsUpTo limits.file_names (λ p. t.objects p ≡ Some (file n))
  no_links n other = (0, (λ p is. false≢true (sym other ∙ used_file n (inl (p, is)))), omega arith)

  links_of : (n : ℕ) (o : Option Node) → v n ≡ o → CountsUpTo limits.file_names (λ p. t.objects p ≡ Some (file n))
  links_of n (Some (file_node attributes links bytes)) is =
      let good : IfSome (Some (file_node attributes links bytes)) (IsNode limits) = subst (λ o. IfSome o (IsNode limits)) is (volume.keeps.nodes n) in
      (links, links_are v volume.graph table n (ap is_file_node is) links (volume.graph.counts n attributes links bytes is), good.1)
  links_of n None is = no_links n (ap is_file_node is)
  links_of n (Some (directory_node attributes names)) is = no_links n (ap is_file_node is)
  links_of n (Some (link_node attributes text)) is = no_links n (ap is_file_node is)

  pub tree_of_is_tree : IsTree limits t
  tree_of_is_tree = record {
    can_be = volume.can_be;
    root = directory_object ROOT_NUMBER (v ROOT_NUMBER) volume.graph.naming.root;
    above = above_is;
    names = names_are;
    single = single_is;
    bytes = bytes_are;
    attributes = attributes_are;
    opened = opened_is;
    numbers = λ n used. volume.keeps.numbers n (used_some n used);
    texts = texts_are;
    children = children_are;
    links = λ n. links_of n (v n) refl;
    sizes = λ n. size_kept limits (v n) (volume.keeps.nodes n);
    fit = λ n. fit_kept limits (v n) (volume.keeps.nodes n);
    table = mounted.bounded;
    offsets = mounted.offsets;
  }
