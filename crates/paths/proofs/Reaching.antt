-- Where the text of a path leads: from the root where it begins at no number, and else from the
-- number.
use Rattle.std.proofs.Common.{◌≡◌, ◌∙◌, ℕ, Bool, true, false, ◌&&◌, ◌||◌, List, [], ◌∷◌, Option, Some, None, Result, Ok, Err, IfNone, IfSome, refl, slice_index_or, sym, ap, subst, drop}
use Rattle.std.specs.Prelude.{if◌then◌else◌, is_some}
use Rattle.std.specs.List.{list_any}
use Rattle.std.specs.Result.{IsErrAnd}
use Rattle.std.proofs.lemmas.Bool.{cond-true, cond-false, false≢true}
use Rattle.std.proofs.lemmas.Result.{IfOk-weaker}
use Rattle.buffers.specs.declared.error.BlockError.{BlockError}
use Rattle.buffers.specs.declared.error.BlockError.TheVariants.{Damaged}
use Rattle.buffers.specs.declared.blocks.Blocks.{Ghosts}
use Rattle.inofile.specs.declared.inode_file.InodeFile.{InodeFile}
use Rattle.model.specs.Finding as model
use Rattle.model.specs.Finding.{IsPlaceAt, IsPlaceOf}
use Rattle.model.specs.declared.limits.TheConstants.{LINKS_FOLLOWED}
use Rattle.model.specs.Paths.{Name, is_dot_dot, is_empty, is_number_alone, number_named, parts, parts_behind, start_number, starts_at_number, starts_with_slash}
use Rattle.model.specs.Resolution.{Resolution, named, missing, refused, resolve}
use Rattle.model.specs.Trees.{Tree}
use Rattle.model.specs.Volumes.{Volume, entries, tree_of}
use Rattle.model.proofs.FindingLemmas.{trails_end}
use Rattle.paths.specs.Ends.{EndsInName, TellsName}
use Rattle.paths.specs.Places.{model_place_of}
use Rattle.paths.specs.Resolves.{LeadsUpNowhere, Resolves, ResolvesFrom, ResolvesParts, ResolvesPlace}
use Rattle.paths.specs.Starts.{LeadsFrom, Reaches, TellsFrom, TellsTarget, IsAlone}
use Rattle.paths.specs.declared.place.Place.{Place}
use Rattle.paths.specs.declared.place.Target.{Target}
use Rattle.paths.specs.declared.place.Target.TheVariants as target
use Rattle.paths.proofs.LookingUp.{same_error}
use Rattle.paths.proofs.Looks.{looks_err, looks_ok}
use Rattle.paths.proofs.PlaceTells.{tells_name}

-- what is found along a trail is found whatever trail led there
pub place_at : (v : Volume) (place : model.Place) (r : Resolution) → IsPlaceOf v place r → IsPlaceAt v place r
place_at v (model.at_directory trail) (named p) is = trails_end (entries v) p trail is
place_at v (model.at_directory trail) (missing p x) is = absurd is
place_at v (model.at_directory trail) (refused errno) is = absurd is
place_at v (model.at_entry trail x n) (named q) is = (is.0, trails_end (entries v) is.0 trail is.1, is.2, is.3)
place_at v (model.at_entry trail x n) (missing p y) is = absurd is
place_at v (model.at_entry trail x n) (refused errno) is = absurd is
place_at v (model.at_missing trail x) (named p) is = absurd is
place_at v (model.at_missing trail x) (missing p y) is = (trails_end (entries v) p trail is.0, is.1, is.2)
place_at v (model.at_missing trail x) (refused errno) is = absurd is
place_at v (model.at_refusal errno) (named p) is = absurd is
place_at v (model.at_refusal errno) (missing p x) is = absurd is
place_at v (model.at_refusal errno) (refused other) is = is

-- ---- from the root

module _ (text : List ℕ) (rooted : start_number text ≡ None) where
  reaches_root : (t : Tree) (follow : Bool) → Reaches t follow text (resolve t follow text)
  reaches_root t follow =
      let P : Option ℕ → Type 0 = λ o. elim o [ None ↦ resolve t follow text ≡ resolve t follow text | Some n ↦ LeadsFrom t follow (parts_behind text) n (resolve t follow text) ] in
      subst P (sym rooted) refl

  all_behind : parts_behind text ≡ parts text
  all_behind = cond-false (starts_at_number text) (drop 1 (parts text)) (parts text) (ap is_some rooted)

module _ {B : Type 0} {G : Ghosts B} {a b : B} {s t : InodeFile} {path : List Name} {follow : Bool} {text : List ℕ} where
  pub root_found : {p : Place} → start_number text ≡ None → path ≡ parts text → ResolvesParts G a b s t path follow (Ok p) → Resolves G a b s t text follow (Ok (target.Place p))
  root_found {p = p} rooted is up = record {
    looks = looks_ok up.looks;
    loads = up.loads;
    within = up.within;
    found = λ disk settled v table stands volume level.
        (resolve (tree_of v table) follow text, reaches_root text rooted (tree_of v table) follow, place_at v (model_place_of p) _ (up.found disk settled v table text stands volume is));
    rooted = λ disk settled v table stands volume none. up.found disk settled v table text stands volume is;
    ends = λ disk settled v stands volume. up.ends disk settled v stands volume;
    named = λ disk settled v stands not plain. up.named disk settled v stands not (subst EndsInName (all_behind text rooted ∙ sym is) plain);
    tells = λ disk settled v stands. subst (TellsName v) (sym (up.place disk settled v stands)) (tells_name v follow LINKS_FOLLOWED [] path);
    alone = λ k same. absurd cc;
    damaged = λ disk settled v stands bad. absurd cc;
  }

  pub root_failed : {e : BlockError} (q : Result Target BlockError) → IsErrAnd q (λ f. f ≡ e) → ResolvesParts G a b s t path follow (Err e) → Resolves G a b s t text follow q
  root_failed (Ok x) is up = absurd is
  root_failed {e = e} (Err f) is up = record {
    looks = looks_err (Err f) is up.looks;
    loads = up.loads;
    within = tt;
    found = λ disk settled v table stands volume level. tt;
    rooted = λ disk settled v table stands volume none. tt;
    ends = λ disk settled v stands volume. tt;
    named = λ disk settled v stands not plain. tt;
    tells = λ disk settled v stands. tt;
    alone = tt;
    damaged = λ disk settled v stands bad. up.damaged disk settled v stands (same_error (Err f) e Damaged is bad);
  }

-- ---- from a number

no_more : (x : Name) (names : List Name) → list_any is_dot_dot (x ∷ names) ≡ false → list_any is_dot_dot names ≡ false
no_more x names none =
    elim (is_dot_dot x) as (λ b. (b || list_any is_dot_dot names) ≡ false → list_any is_dot_dot names ≡ false) [ true ↦ λ e. absurd (false≢true (sym e)) | false ↦ λ e. e ] none

none_behind : (names : List Name) → list_any is_dot_dot names ≡ false → list_any is_dot_dot (drop 1 names) ≡ false
none_behind [] none = refl
none_behind (x ∷ names) none = no_more x names none

no_start : {X : Type 0} (b : Bool) (n : ℕ) → (if b then None else None) ≡ Some n → X
no_start true n is = absurd cc
no_start false n is = absurd cc

-- the first part is the number's, so there is one
pub next_behind : {X : Type 0} (items : X → Name) (text : List ℕ) (n : ℕ) (old new : List Name) (o : Option X) → start_number text ≡ Some n → old ≡ parts text
    → IfSome o (λ part. old ≡ items part ∷ new) → IfNone o (old ≡ []) → new ≡ drop 1 (parts text)
next_behind items text n old new (Some part) start are some none = ap (drop 1) (sym some ∙ are)
next_behind items text n old new None start are some none =
    no_start (starts_with_slash text) n (sym (ap (λ (ps : List Name). if starts_with_slash text then None else number_named (slice_index_or ps 0 [])) (sym are ∙ none)) ∙ start)

module _ (text : List ℕ) (n : ℕ) (start : start_number text ≡ Some n) where
  begins : starts_at_number text ≡ true
  begins = ap is_some start

  behind : parts_behind text ≡ drop 1 (parts text)
  behind = cond-true (starts_at_number text) (drop 1 (parts text)) (parts text) begins

  level : LeadsUpNowhere text → list_any is_dot_dot (parts_behind text) ≡ false
  level nowhere = ap (list_any is_dot_dot) behind ∙ none_behind (parts text) (sym (ap (λ b. b && list_any is_dot_dot (parts text)) begins) ∙ nowhere)

  reaches : (t : Tree) (follow : Bool) (r : Resolution) → LeadsFrom t follow (parts_behind text) n r → Reaches t follow text r
  reaches t follow r leads =
      let P : Option ℕ → Type 0 = λ o. elim o [ None ↦ r ≡ resolve t follow text | Some k ↦ LeadsFrom t follow (parts_behind text) k r ] in
      subst P (sym start) leads

  tells : (t : Tree) (v : Volume) (follow : Bool) (x : Target) → TellsFrom t v follow (parts_behind text) n x → TellsTarget t v follow text x
  tells t v follow (target.Place p) is = (is.0, reaches t follow is.0 is.1, is.2)
  tells t v follow (target.Object k) is = (start ∙ ap Some (sym is.0), subst (IsAlone t v follow (parts_behind text)) (sym is.0) is.1)

  number_alone : is_empty (parts_behind text) ≡ true → is_number_alone text ≡ true
  number_alone none = ap (λ b. b && is_empty (parts_behind text)) begins ∙ none

  module _ {B : Type 0} {G : Ghosts B} {a b : B} {s t : InodeFile} {names : List Name} {follow : Bool} {r : Result Target BlockError} where
    by_names : names ≡ parts_behind text → ResolvesFrom G a b s t n (parts_behind text) follow r → Resolves G a b s t text follow r
    by_names is up = record {
      looks = up.looks;
      loads = up.loads;
      within = up.within;
      found = λ disk settled v table stands volume nowhere.
          IfOk-weaker r (TellsFrom (tree_of v table) v follow (parts_behind text) n) _ (tells (tree_of v table) v follow) (up.found disk settled v table stands volume (level nowhere));
      rooted = λ disk settled v table stands volume none. absurd (let other : Some n ≡ None = sym start ∙ none in cc);
      ends = up.ends;
      named = up.named;
      tells = up.tells;
      alone = IfOk-weaker r (λ x. (k : ℕ) → x ≡ target.Object k → is_empty (parts_behind text) ≡ true) _ (λ x alone k same. number_alone (alone k same)) up.alone;
      damaged = up.damaged;
    }

    pub from_number : names ≡ drop 1 (parts text) → ResolvesFrom G a b s t n names follow r → Resolves G a b s t text follow r
    from_number is up = by_names (is ∙ sym behind) (subst (λ x. ResolvesFrom G a b s t n x follow r) (is ∙ sym behind) up)

-- ---- a text that isn't a number alone

module _ {B : Type 0} {G : Ghosts B} {a b : B} {s t : InodeFile} {text : List ℕ} {follow : Bool} where
  pub place_found : {p : Place} → Resolves G a b s t text follow (Ok (target.Place p)) → ResolvesPlace G a b s t text follow (Ok p)
  place_found up = record {
    looks = looks_ok up.looks;
    loads = up.loads;
    within = up.within;
    found = up.found;
    rooted = up.rooted;
    ends = up.ends;
    named = up.named;
    tells = up.tells;
    damaged = λ disk settled v stands bad. absurd cc;
  }

  pub place_failed : {e : BlockError} (q : Result Place BlockError) → IsErrAnd q (λ f. f ≡ e) → Resolves G a b s t text follow (Err e) → ResolvesPlace G a b s t text follow q
  place_failed (Ok x) is up = absurd is
  place_failed {e = e} (Err f) is up = record {
    looks = looks_err (Err f) is up.looks;
    loads = up.loads;
    within = tt;
    found = λ disk settled v table stands volume level. tt;
    rooted = λ disk settled v table stands volume none. tt;
    ends = λ disk settled v stands volume. tt;
    named = λ disk settled v stands not plain. tt;
    tells = λ disk settled v stands. tt;
    damaged = λ disk settled v stands bad. up.damaged disk settled v stands (same_error (Err f) e Damaged is bad);
  }

  pub no_object : {k : ℕ} → is_number_alone text ≡ false → Resolves G a b s t text follow (Ok (target.Object k)) → ⊥
  no_object {k = k} other up = false≢true (sym other ∙ up.alone k refl)
