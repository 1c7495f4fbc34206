-- The limits of a volume, through a change of a name and of an object.
use Rattle.std.proofs.Common.{◌≡◌, ◌≢◌, ◌⊎◌, inl, inr, ℕ, zero, suc, ◌≤◌, ◌<◌, Bool, true, false, ◌==◌, Option, Some, None, is_some, IsSome, IfSome, refl, sym, ap, subst, ◌∙◌, arith}
use Rattle.std.proofs.lemmas.Bool.{cases_Bool, cases_eq, cond_both, false≢true}
use Rattle.model.specs.declared.limits.Limits.{Limits}
use Rattle.model.specs.declared.limits.TheConstants.{OPEN_FILES, ROOT_NUMBER, FIRST_NUMBER}
use Rattle.model.specs.Counting.{Counts, CountsUpTo}
use Rattle.model.specs.Paths.{Name}
use Rattle.model.specs.Trees.{Description}
use Rattle.model.specs.Volumes.{Node, directory_node, file_node, link_node, Volume, Entries, entries, with_edge, with_node, set_name, with_entry, IsNode, KeepsNodeLimits, with_name_less, released, is_open, swept_node, swept}
use Rattle.model.proofs.WalkLemmas.{edge_here, edge_other}
use Rattle.model.proofs.CountLemmas.{same_count, one_more, one_less}
use Rattle.model.proofs.ListingLemmas.{names_apart}
use Rattle.model.proofs.KeptLemmas.{node-here}
use Rattle.model.proofs.ObjectLaws.{node_other}

abbrev pub HasGoodNodes : Limits → Volume → Type 0
HasGoodNodes limits v = (n : ℕ) → IfSome (v n) (IsNode limits)

abbrev pub HasGoodNumbers : Limits → Volume → Type 0
HasGoodNumbers limits v = (n : ℕ) → IsSome (v n) → (n ≡ ROOT_NUMBER) ⊎ ((FIRST_NUMBER ≤ n) × (n < limits.inodes))

-- the nodes

pub good_node : (limits : Limits) (v : Volume) (n : ℕ) (o : Option Node) → HasGoodNodes limits v → IfSome o (IsNode limits) → HasGoodNodes limits (with_node n o v)
good_node limits v n o good here = λ k. cond_both (k == n) o (v k) (λ r. IfSome r (IsNode limits)) (λ e. here) (λ e. good k)

set_good : (limits : Limits) (x : Name) (to : Option ℕ) (o : Option Node) → IfSome o (IsNode limits) → IfSome (set_name x to o) (IsNode limits)
set_good limits x to None good = tt
set_good limits x to (Some (directory_node attributes names)) good = good
set_good limits x to (Some (file_node attributes links bytes)) good = good
set_good limits x to (Some (link_node attributes text)) good = good

pub good_entry : (limits : Limits) (v : Volume) (d : ℕ) (x : Name) (to : Option ℕ) → HasGoodNodes limits v → HasGoodNodes limits (with_entry d x to v)
good_entry limits v d x to good = good_node limits v d (set_name x to (v d)) good (set_good limits x to (v d) (good d))

less_good : (limits : Limits) (o : Option Node) → IfSome o (IsNode limits) → IfSome (with_name_less o) (IsNode limits)
less_good limits None good = tt
less_good limits (Some (directory_node attributes names)) good = tt
less_good limits (Some (file_node attributes links bytes)) good = (good.0, omega (arith, good.1), good.2)
less_good limits (Some (link_node attributes text)) good = tt

pub good_released : (limits : Limits) (o : Option ℕ) (v : Volume) → HasGoodNodes limits v → HasGoodNodes limits (released o v)
good_released limits None v good = good
good_released limits (Some n) v good = good_node limits v n (with_name_less (v n)) good (less_good limits (v n) (good n))

-- the numbers

pub numbers_node : (limits : Limits) (v : Volume) (n : ℕ) (o : Option Node) → HasGoodNumbers limits v → (IsSome o → (n ≡ ROOT_NUMBER) ⊎ ((FIRST_NUMBER ≤ n) × (n < limits.inodes))) → HasGoodNumbers limits (with_node n o v)
numbers_node limits v n o numbers here k some =
    elim (cases_eq k n) [
      | inl is ↦ subst (λ j. (j ≡ ROOT_NUMBER) ⊎ ((FIRST_NUMBER ≤ j) × (j < limits.inodes))) (sym is) (here (sym (ap is_some (ap (with_node n o v) is ∙ node-here n o v)) ∙ some))
      | inr other ↦ numbers k (sym (ap is_some (node_other n k o v other)) ∙ some)
    ]

set_some : (x : Name) (to : Option ℕ) (o : Option Node) → is_some (set_name x to o) ≡ is_some o
set_some x to None = refl
set_some x to (Some (directory_node attributes names)) = refl
set_some x to (Some (file_node attributes links bytes)) = refl
set_some x to (Some (link_node attributes text)) = refl

pub numbers_entry : (limits : Limits) (v : Volume) (d : ℕ) (x : Name) (to : Option ℕ) → HasGoodNumbers limits v → HasGoodNumbers limits (with_entry d x to v)
numbers_entry limits v d x to numbers = numbers_node limits v d (set_name x to (v d)) numbers (λ some. numbers d (sym (set_some x to (v d)) ∙ some))

less_some : (o : Option Node) → IsSome (with_name_less o) → IsSome o
less_some None some = some
less_some (Some o) some = refl

pub numbers_released : (limits : Limits) (o : Option ℕ) (v : Volume) → HasGoodNumbers limits v → HasGoodNumbers limits (released o v)
numbers_released limits None v numbers = numbers
numbers_released limits (Some n) v numbers = numbers_node limits v n (with_name_less (v n)) numbers (λ some. numbers n (less_some (v n) some))

-- the names in a directory

abbrev pub HasFew : Limits → Entries → Type 0
HasFew limits e = (d : ℕ) → CountsUpTo limits.directory_names (λ x. IsSome (e d x))

module _ (e : Entries) (k : ℕ) (b : Name) (to : Option ℕ) where
  -- another directory has the same names
  pub same_in_other : (d count : ℕ) → d ≢ k → Counts (λ x. IsSome (e d x)) count → Counts (λ x. IsSome (with_edge k b to e d x)) count
  same_in_other d count other =
      same_count (λ x. IsSome (e d x)) (λ x. IsSome (with_edge k b to e d x)) count
      (λ x. let same = edge_other k d b x to e (λ is. absurd (other is)) in (λ some. ap is_some same ∙ some, λ some. sym (ap is_some same) ∙ some))

  -- a name that is there, or isn't, as before
  pub same_there : (count : ℕ) → is_some to ≡ is_some (e k b) → Counts (λ x. IsSome (e k x)) count → Counts (λ x. IsSome (with_edge k b to e k x)) count
  same_there count alike =
      same_count (λ x. IsSome (e k x)) (λ x. IsSome (with_edge k b to e k x)) count
      (λ x. elim (names_apart x b) [
        | inl is ↦
            let same : is_some (with_edge k b to e k x) ≡ is_some (e k x) = ap (λ y. is_some (with_edge k b to e k y)) is ∙ ap is_some (edge_here k b to e) ∙ alike ∙ ap (λ y. is_some (e k y)) (sym is) in
            (λ some. same ∙ some, λ some. sym same ∙ some)
        | inr other ↦ let same = edge_other k k b x to e (λ is name. other name) in (λ some. ap is_some same ∙ some, λ some. sym (ap is_some same) ∙ some)
      ])

  pub one_added : (count : ℕ) → IsSome to → e k b ≡ None → Counts (λ x. IsSome (e k x)) count → Counts (λ x. IsSome (with_edge k b to e k x)) (suc count)
  one_added count some free counts =
      one_more (λ x. IsSome (e k x)) (λ x. IsSome (with_edge k b to e k x)) b count (ap is_some (edge_here k b to e) ∙ some)
      (λ x. (
        (λ there. let other : x ≢ b = λ is. false≢true (sym (ap is_some free) ∙ ap (λ y. is_some (e k y)) (sym is) ∙ there) in (ap is_some (edge_other k k b x to e (λ is name. other name)) ∙ there, other)),
        (λ (now, other). sym (ap is_some (edge_other k k b x to e (λ is name. other name))) ∙ now),
      )) counts

  pub one_removed : (count : ℕ) → to ≡ None → IsSome (e k b) → Counts (λ x. IsSome (e k x)) count → (rest : ℕ) × (count ≡ suc rest) × Counts (λ x. IsSome (with_edge k b to e k x)) rest
  one_removed count none some counts =
      let less = one_less (λ x. IsSome (e k x)) b count names_apart some counts in (
        less.0,
        less.1,
        same_count (λ x. IsSome (e k x) × (x ≢ b)) (λ x. IsSome (with_edge k b to e k x)) less.0 (λ x. (
          (λ (there, other). ap is_some (edge_other k k b x to e (λ is name. other name)) ∙ there),
          (λ now. let other : x ≢ b = λ is. false≢true (sym (ap is_some (edge_here k b to e ∙ none)) ∙ ap (λ y. is_some (with_edge k b to e k y)) (sym is) ∙ now) in (sym (ap is_some (edge_other k k b x to e (λ is name. other name))) ∙ now, other)),
        )) less.2,
      )

  -- each directory has few names, where this one has
  pub few_after : (limits : Limits) → HasFew limits e → CountsUpTo limits.directory_names (λ x. IsSome (with_edge k b to e k x)) → HasFew limits (with_edge k b to e)
  few_after limits few here d =
      elim (cases_eq d k) [
        | inl is ↦ subst (λ j. CountsUpTo limits.directory_names (λ x. IsSome (with_edge k b to e j x))) (sym is) here
        | inr other ↦ let counts = few d in (counts.0, same_in_other d counts.0 other counts.1, counts.2)
      ]

  pub few_more : (limits : Limits) → HasFew limits e → IsSome to → e k b ≡ None → (count : ℕ) → Counts (λ x. IsSome (e k x)) count → count < limits.directory_names → HasFew limits (with_edge k b to e)
  few_more limits few some free count counts room = few_after limits few (suc count, one_added count some free counts, omega (arith, room))

  pub few_same : (limits : Limits) → HasFew limits e → is_some to ≡ is_some (e k b) → HasFew limits (with_edge k b to e)
  few_same limits few alike = few_after limits few (let counts = few k in (counts.0, same_there counts.0 alike counts.1, counts.2))

  pub few_less : (limits : Limits) → HasFew limits e → to ≡ None → HasFew limits (with_edge k b to e)
  few_less limits few none =
      elim (cases_Bool (is_some (e k b))) [
        | inl some ↦
            let counts = few k in
            let less = one_removed counts.0 none some counts.1 in
            few_after limits few (less.0, less.2, omega (arith, counts.2, less.1))
        | inr free ↦ few_same limits few (ap is_some none ∙ sym free)
      ]

-- a sweep keeps the limits
pub limits_swept : (limits : Limits) (v : Volume) (table : ℕ → Option Description) → entries (swept table v) ≡ entries v → KeepsNodeLimits limits v → KeepsNodeLimits limits (swept table v)
limits_swept limits v table same kept = record {
  nodes = λ n. swept_good (is_open table OPEN_FILES n) (v n) (kept.nodes n);
  numbers = λ n some. kept.numbers n (swept_some (is_open table OPEN_FILES n) (v n) some);
  children = subst (HasFew limits) (sym same) kept.children;
}
  where
    swept_good : (b : Bool) (o : Option Node) → IfSome o (IsNode limits) → IfSome (swept_node b o) (IsNode limits)
    swept_good b None good = tt
    swept_good b (Some (directory_node attributes names)) good = good
    swept_good true (Some (file_node attributes zero bytes)) good = good
    swept_good false (Some (file_node attributes zero bytes)) good = tt
    swept_good b (Some (file_node attributes (suc links) bytes)) good = good
    swept_good b (Some (link_node attributes text)) good = good

    swept_some : (b : Bool) (o : Option Node) → IsSome (swept_node b o) → IsSome o
    swept_some b None some = some
    swept_some b (Some o) some = refl
