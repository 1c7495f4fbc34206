-- A tree in which objects are touched: it is the tree that it was, but for the times of those objects.
use Rattle.std.proofs.Common.{◌≡◌, ℕ, ◌==◌, Bool, Option, Some, None, is_some, IfSome, refl, sym, subst, ◌∙◌}
use Rattle.std.specs.Prelude.{IsTrue}
use Rattle.std.specs.Option.{option_map}
use Rattle.std.proofs.lemmas.Bool.{cond_both}
use Rattle.model.specs.declared.limits.Limits.{Limits}
use Rattle.model.specs.declared.attributes.Attributes.{Attributes}
use Rattle.model.specs.declared.attributes.Touch.{Touch}
use Rattle.model.specs.declared.attributes.Touch.TheVariants.{Data, Status}
use Rattle.model.specs.declared.time.Time.{Time}
use Rattle.model.specs.Attributes.{FitAttributes, IsTime, KeepsTime}
use Rattle.model.specs.Touches.{Touches, touched_at}
use Rattle.model.specs.Trees.{Tree, IsTree}
use Rattle.model.specs.Edits.{touching, marked}
use Rattle.model.specs.Sessions.{kept_time}
use Rattle.model.proofs.AttributeLaws.{touched_fit}
use Rattle.model.proofs.LooseLemmas.{IsLooseTree}

-- the time of a call is one that a change may have
pub time_kept : (limits : Limits) (time : Time) → IsTime time → KeepsTime limits.has_attributes (kept_time limits time)
time_kept limits time is = cond_both limits.has_attributes (Some time) None (KeepsTime limits.has_attributes) (λ e. (e, is)) (λ e. e)

-- what each touch keeps, all of a change keep
pub marks_hold : (P : Tree → Type 0) (now : Option Time) (touches : Touches) (t : Tree)
    → ((time : Time) (touch : Touch) (n : ℕ) (u : Tree) → now ≡ Some time → P u → P (touching time touch (Some n) u)) → P t → P (marked now touches t)
marks_hold P None touches t keeps holds = holds
marks_hold P (Some time) touches t keeps holds =
    each Data touches.new_parent _ (each Data touches.parent _ (each Status touches.replaced _ (each touches.touch touches.object t holds)))
  where
    each : (touch : Touch) (n : Option ℕ) (u : Tree) → P u → P (touching time touch n u)
    each touch None u was = was
    each touch (Some n) u was = keeps time touch n u refl was

pub marked_objects : (now : Option Time) (touches : Touches) (t : Tree) → (marked now touches t).objects ≡ t.objects
marked_objects now touches t = marks_hold (λ u. u.objects ≡ t.objects) now touches t (λ time touch n u is same. same) refl

pub marked_bytes : (now : Option Time) (touches : Touches) (t : Tree) → (marked now touches t).bytes ≡ t.bytes
marked_bytes now touches t = marks_hold (λ u. u.bytes ≡ t.bytes) now touches t (λ time touch n u is same. same) refl

pub marked_descriptors : (now : Option Time) (touches : Touches) (t : Tree) → (marked now touches t).descriptors ≡ t.descriptors
marked_descriptors now touches t = marks_hold (λ u. u.descriptors ≡ t.descriptors) now touches t (λ time touch n u is same. same) refl

-- an object is touched
module _ (limits : Limits) (time : Time) (has : IsTrue limits.has_attributes) (is : IsTime time) (touch : Touch) (n : ℕ) (t : Tree) where
  abbrev touched : Option Attributes → Option Attributes
  touched = option_map (touched_at time touch)

  abbrev fits : Option Attributes → Type 0
  fits o = IfSome o (FitAttributes limits.has_attributes)

  as_before : (o : Option Attributes) → is_some (touched o) ≡ is_some o
  as_before None = refl
  as_before (Some a) = refl

  there : (k : ℕ) → is_some ((touching time touch (Some n) t).attributes k) ≡ is_some (t.attributes k)
  there k = cond_both (k == n) (touched (t.attributes k)) (t.attributes k) (λ o. is_some o ≡ is_some (t.attributes k)) (λ e. as_before (t.attributes k)) (λ e. refl)

  still_fits : (o : Option Attributes) → fits o → fits (touched o)
  still_fits None fit = fit
  still_fits (Some a) fit = touched_fit limits.has_attributes time touch a (has, is) fit

  all_fit : ((k : ℕ) → fits (t.attributes k)) → (k : ℕ) → fits ((touching time touch (Some n) t).attributes k)
  all_fit fit k = cond_both (k == n) (touched (t.attributes k)) (t.attributes k) fits (λ e. still_fits (t.attributes k) (fit k)) (λ e. fit k)

  touched_is_tree : IsTree limits t → IsTree limits (touching time touch (Some n) t)
  touched_is_tree tree = record {
    can_be = tree.can_be;
    root = tree.root;
    above = tree.above;
    names = tree.names;
    single = tree.single;
    bytes = tree.bytes;
    attributes = λ k. (λ some. (tree.attributes k).0 (sym (there k) ∙ some), λ used. there k ∙ (tree.attributes k).1 used);
    opened = tree.opened;
    numbers = tree.numbers;
    texts = tree.texts;
    children = tree.children;
    links = tree.links;
    sizes = tree.sizes;
    fit = all_fit tree.fit;
    table = tree.table;
    offsets = tree.offsets;
  }

  touched_is_loose : IsLooseTree limits t → IsLooseTree limits (touching time touch (Some n) t)
  touched_is_loose loose = record {
    can_be = loose.can_be;
    root = loose.root;
    above = loose.above;
    names = loose.names;
    single = loose.single;
    bytes = loose.bytes;
    attributes = λ k used. there k ∙ loose.attributes k used;
    loose_bytes = loose.loose_bytes;
    loose_attributes = λ k some. loose.loose_attributes k (sym (there k) ∙ some);
    opened = loose.opened;
    numbers = loose.numbers;
    texts = loose.texts;
    children = loose.children;
    links = loose.links;
    sizes = loose.sizes;
    fit = all_fit loose.fit;
    table = loose.table;
    offsets = loose.offsets;
  }

-- what a change touches, touched
module _ (limits : Limits) (now : Option Time) (keeps : KeepsTime limits.has_attributes now) (touches : Touches) (t : Tree) where
  told : (time : Time) → now ≡ Some time → IsTrue limits.has_attributes × IsTime time
  told time is = subst (KeepsTime limits.has_attributes) is keeps

  pub marked_is_tree : IsTree limits t → IsTree limits (marked now touches t)
  marked_is_tree = marks_hold (IsTree limits) now touches t (λ time touch n u is. let kept = told time is in touched_is_tree limits time kept.0 kept.1 touch n u)

  pub marked_is_loose : IsLooseTree limits t → IsLooseTree limits (marked now touches t)
  marked_is_loose = marks_hold (IsLooseTree limits) now touches t (λ time touch n u is. let kept = told time is in touched_is_loose limits time kept.0 kept.1 touch n u)
