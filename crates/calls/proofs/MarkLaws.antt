-- What a change touches: attributes change by it, and nothing else.
use Rattle.std.proofs.Common.{◌≡◌, inl, inr, ℕ, zero, suc, List, [], ◌∷◌, ◌++◌, Bool, true, false, Option, Some, None, refl, sym, ap, subst, ◌∙◌}
use Rattle.std.specs.Option.{option_map}
use Rattle.std.proofs.Math.Path.{fun_ext}
use Rattle.std.proofs.lemmas.Bool.{cases_eq}
use Rattle.model.specs.declared.attributes.Attributes.{Attributes}
use Rattle.model.specs.declared.attributes.Touch.{Touch}
use Rattle.model.specs.declared.attributes.Touch.TheVariants.{Data, Status}
use Rattle.model.specs.declared.limits.TheConstants.{OPEN_FILES}
use Rattle.model.specs.declared.time.Time.{Time}
use Rattle.model.specs.Changing.{entered}
use Rattle.model.specs.Edits.{marked, number_at_path}
use Rattle.model.specs.Paths.{Name, Path}
use Rattle.model.specs.Records.{marked_nodes, touching_node, with_node_attributes}
use Rattle.model.specs.Resolution.{parent}
use Rattle.model.specs.Touches.{Touches, touched_at, touches_entry}
use Rattle.model.specs.Trees.{Description, Tree, number_of_object}
use Rattle.model.specs.Trees as trees
use Rattle.model.specs.Volumes.{Node, Volume, directory_node, file_node, is_open, link_node, swept, swept_node, with_node}
use Rattle.model.proofs.LeadLemmas.{parent-push}
use Rattle.model.proofs.ObjectLaws.{node_here, node_other}

-- ---- volumes

-- attributes are not what makes an object stay or go
pub attributes_stay : (open_now : Bool) (f : Attributes → Attributes) (o : Option Node) → swept_node open_now o ≡ o → swept_node open_now (with_node_attributes f o) ≡ with_node_attributes f o
attributes_stay open_now f None stays = refl
attributes_stay open_now f (Some (directory_node old names)) stays = refl
attributes_stay true f (Some (file_node old zero bytes)) stays = refl
attributes_stay false f (Some (file_node old zero bytes)) stays = gone stays
  where
    gone : {X : Type 0} → None ≡ Some (file_node old zero bytes) → X
    gone e = cc
attributes_stay open_now f (Some (file_node old (suc links) bytes)) stays = refl
attributes_stay open_now f (Some (link_node attributes text)) stays = refl

-- the volume with one object touched
abbrev with_touched : Time → Touch → ℕ → Volume → Volume
with_touched time touch n v = with_node n (with_node_attributes (touched_at time touch) (v n)) v

-- what is kept where an object is touched is kept by all that a change touches
marks_keep : (P : Volume → Type 0) (now : Option Time) (touches : Touches) (v : Volume)
    → ((time : Time) (touch : Touch) (n : ℕ) (w : Volume) → P w → P (with_touched time touch n w)) → P v → P (marked_nodes now touches v)
marks_keep P None touches v keeps holds = holds
marks_keep P (Some time) touches v keeps holds =
    each Data touches.new_parent _ (each Data touches.parent _ (each Status touches.replaced _ (each touches.touch touches.object v holds)))
  where
    each : (touch : Touch) (found : Option ℕ) (w : Volume) → P w → P (touching_node time touch found w)
    each touch None w was = was
    each touch (Some n) w was = keeps time touch n w was

-- where nothing is to be swept, nothing is behind a mark
pub marked_unswept : (table : ℕ → Option Description) (now : Option Time) (touches : Touches) (v : Volume) → ((k : ℕ) → swept table v k ≡ v k)
    → swept table (marked_nodes now touches v) ≡ marked_nodes now touches v
marked_unswept table now touches v whole =
    let w = marked_nodes now touches v in
    fun_ext {f = swept table w} {g = w} (marks_keep (λ (x : Volume). (k : ℕ) → swept table x k ≡ x k) now touches v step whole)
  where
    step : (time : Time) (touch : Touch) (n : ℕ) (x : Volume) → ((k : ℕ) → swept table x k ≡ x k) → (k : ℕ) → swept table (with_touched time touch n x) k ≡ with_touched time touch n x k
    step time touch n x was k =
        let open_now = is_open table OPEN_FILES k in
        let f = touched_at time touch in
        elim (cases_eq k n) [
          | inl same ↦
              let e = node_here n k (with_node_attributes f (x n)) x same in
              let kept = subst (λ (i : ℕ). swept_node open_now (x i) ≡ x i) same (was k) in
              ap (swept_node open_now) e ∙ attributes_stay open_now f (x n) kept ∙ sym e
          | inr other ↦
              let e = node_other n k (with_node_attributes f (x n)) x other in
              ap (swept_node open_now) e ∙ was k ∙ sym e
        ]

-- a file of this mode, with so many names and these bytes
pub record IsFileWith (mode links : ℕ) (bytes : List ℕ) (o : Option Node) : Type 0 where
  pub attributes : Attributes
  pub is : o ≡ Some (file_node attributes links bytes)
  pub mode_is : mode ≡ attributes.mode

-- it is one still behind a mark
pub marked_file : (now : Option Time) (touches : Touches) (v : Volume) (n mode links : ℕ) (bytes : List ℕ) → IsFileWith mode links bytes (v n)
    → IsFileWith mode links bytes (marked_nodes now touches v n)
marked_file now touches v n mode links bytes file = marks_keep (λ (x : Volume). IsFileWith mode links bytes (x n)) now touches v step file
  where
    same_mode : (time : Time) (touch : Touch) (a : Attributes) → a.mode ≡ (touched_at time touch a).mode
    same_mode time Data a = refl
    same_mode time Status a = refl

    step : (time : Time) (touch : Touch) (k : ℕ) (x : Volume) → IsFileWith mode links bytes (x n) → IsFileWith mode links bytes (with_touched time touch k x n)
    step time touch k x was =
        let f = touched_at time touch in
        elim (cases_eq n k) [
          | inl same ↦ record {
            attributes = f was.attributes;
            is = node_here k n (with_node_attributes f (x k)) x same ∙ ap (λ (i : ℕ). with_node_attributes f (x i)) (sym same) ∙ ap (with_node_attributes f) was.is;
            mode_is = was.mode_is ∙ same_mode time touch was.attributes;
          }
          | inr other ↦ record {
            attributes = was.attributes;
            is = node_other k n (with_node_attributes f (x k)) x other ∙ was.is;
            mode_is = was.mode_is;
          }
        ]

-- ---- trees

-- the directory of this number stands at a path
pub number_here : (t : Tree) (p : Path) (d : ℕ) → t.objects p ≡ Some (trees.directory d) → number_at_path t p ≡ Some d
number_here t p d stands = ap (option_map number_of_object) stands

pub parent_number : (t : Tree) (p : Path) (x : Name) (d : ℕ) → t.objects p ≡ Some (trees.directory d) → number_at_path t (parent (p ++ x ∷ [])) ≡ Some d
parent_number t p x d stands = ap (number_at_path t) (parent-push p x) ∙ number_here t p d stands

-- what gets a name there is entered there
pub entered_here : (now : Option Time) (touch : Touch) (n d : ℕ) (p : Path) (old new : Tree) → old.objects p ≡ Some (trees.directory d)
    → marked now (touches_entry touch (Some n) (Some d)) new ≡ entered now touch n p old new
entered_here now touch n d p old new stands = ap (λ (o : Option ℕ). marked now (touches_entry touch (Some n) o) new) (sym (number_here old p d stands))
