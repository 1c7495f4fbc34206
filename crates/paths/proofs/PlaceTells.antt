-- What a place tells of its name, where a search by numbers ends: what its directory says of it, whatever the volume.
use Rattle.std.proofs.Common.{◌≡◌, ℕ, zero, suc, Bool, not, ◌&&◌, List, [], ◌∷◌, ◌++◌, Option, Some, None, refl}
use Rattle.std.specs.Prelude.{if◌then◌else◌}
use Rattle.std.proofs.lemmas.Bool.{cond_both}
use Rattle.model.specs.declared.errno.Errno.TheVariants.{ELOOP, ENOENT, ENOTDIR}
use Rattle.model.specs.Finding.{Place, at_entry, at_missing, at_refusal, here, WalkEnd, halts, halts_at_link, Turn, stays_on, enters, ends_at, follows, finds_nothing, finds_damage, finds_long, turn, turn_at, turn_by, find_along, find_on, find_within}
use Rattle.model.specs.Paths.{Name, parts, is_dot, is_dot_dot, is_empty, is_too_long, starts_with_slash}
use Rattle.model.specs.Volumes.{Node, directory_node, file_node, link_node, Volume, entries}
use Rattle.paths.specs.Ends.{TellsName}
use Rattle.paths.specs.Steps.{after_turn}

module _ (v : Volume) where
  abbrev HaltTells : WalkEnd → Type 0
  HaltTells (halts place) = TellsName v place
  HaltTells (halts_at_link trail text rest) = Unit {0}

  module _ (trail : List ℕ) (part : Name) where
    abbrev TurnTells : Turn → Type 0
    TurnTells (stays_on next) = Unit {0}
    TurnTells (enters n) = entries v (here trail) part ≡ Some n
    TurnTells (ends_at n) = entries v (here trail) part ≡ Some n
    TurnTells (follows n text) = entries v (here trail) part ≡ Some n
    TurnTells finds_nothing = entries v (here trail) part ≡ None
    TurnTells finds_damage = Unit {0}
    TurnTells finds_long = Unit {0}

    at_node : (n : ℕ) (o : Option Node) → entries v (here trail) part ≡ Some n → TurnTells (turn_at n o)
    at_node n None is = tt
    at_node n (Some (directory_node attributes names)) is = is
    at_node n (Some (file_node attributes links bytes)) is = is
    at_node n (Some (link_node attributes text)) is = is

    by_name : (o : Option ℕ) → entries v (here trail) part ≡ o → TurnTells (turn_by v o)
    by_name None is = is
    by_name (Some n) is = at_node n (v n) is

    turn_tells : TurnTells (turn v trail part)
    turn_tells =
        cond_both (is_dot part) _ _ TurnTells (λ e. tt) (λ e.
        cond_both (is_dot_dot part) _ _ TurnTells (λ f. tt) (λ f.
        cond_both (is_too_long part) _ _ TurnTells (λ g. tt) (λ g. by_name (entries v (here trail) part) refl)))

  module _ (follow : Bool) where
    along : (names : List Name) (trail : List ℕ) → HaltTells (find_along v follow trail names)
    along [] trail = tt
    along (part ∷ rest) trail =
        elim (turn v trail part) as (λ t. TurnTells trail part t → HaltTells (after_turn v follow trail part rest t)) [
          | stays_on next ↦ λ is. along rest next
          | enters n ↦ λ is.
              cond_both (is_empty rest) (halts (at_entry trail part n)) (find_along v follow (trail ++ n ∷ []) rest) HaltTells (λ e. is) (λ e. along rest (trail ++ n ∷ []))
          | ends_at n ↦ λ is. cond_both (is_empty rest) (at_entry trail part n) (at_refusal ENOTDIR) (TellsName v) (λ e. is) (λ e. tt)
          | follows n text ↦ λ is.
              cond_both (is_empty rest && not follow) (halts (at_entry trail part n)) (halts_at_link trail text rest) HaltTells (λ e. is) (λ e. tt)
          | finds_nothing ↦ λ is. cond_both (is_empty rest) (at_missing trail part) (at_refusal ENOENT) (TellsName v) (λ e. is) (λ e. tt)
          | finds_damage ↦ λ is. tt
          | finds_long ↦ λ is. tt
        ] (turn_tells trail part)

    on : (f : List ℕ → List Name → Place) → ((trail : List ℕ) (names : List Name) → TellsName v (f trail names)) → (h : WalkEnd) → HaltTells h → TellsName v (find_on f h)
    on f tells (halts place) is = is
    on f tells (halts_at_link trail text rest) is = tells (if starts_with_slash text then [] else trail) (parts text ++ rest)

    pub tells_name : (links : ℕ) (trail : List ℕ) (names : List Name) → TellsName v (find_within links v follow trail names)
    tells_name zero trail names = on (λ _ _. at_refusal ELOOP) (λ trail names. tt) (find_along v follow trail names) (along names trail)
    tells_name (suc links) trail names = on (find_within links v follow) (tells_name links) (find_along v follow trail names) (along names trail)
