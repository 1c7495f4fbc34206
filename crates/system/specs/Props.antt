-- That a root is in its grammar has one proof at most: for a ghost field.
use Rattle.std.specs.Prelude.{ℕ}
use Rattle.std.proofs.Props.{props}
use Rattle.model.specs.declared.attributes.Attributes.{Attributes}
use Rattle.layout.specs.Inode.{FitsBody, FitsKind}
use Rattle.layout.specs.Limits.{Sizes}
use Rattle.layout.specs.Pointer.{PointsBelow}
use Rattle.layout.specs.Root.{IsRoot}
use Rattle.layout.specs.declared.inode.Body.{Body}
use Rattle.layout.specs.declared.inode.Body.TheVariants.{Inline, Pointers}
use Rattle.layout.specs.declared.kind.Kind.{Kind}
use Rattle.layout.specs.declared.kind.Kind.TheVariants as kinds
use Rattle.layout.specs.declared.pointer.Pointer.{Pointer}
use Rattle.layout.specs.declared.pointer.Pointer.TheVariants.{Hole, Block}
use Rattle.layout.specs.declared.root.Root.{Root}
use Rattle.layout.specs.declared.trees.Layout.{Layout}

points_below-prop : (blocks : ℕ) (p : Pointer) → IsProp (PointsBelow blocks p)
points_below-prop blocks Hole = hlevel props
points_below-prop blocks (Block b) = hlevel props

fits_kind-prop : (k : Kind) (s : Sizes) (attributes : Attributes) (links size : ℕ)
    → IsProp (FitsKind k s attributes links size)
fits_kind-prop kinds.Free s attributes links size = hlevel props
fits_kind-prop kinds.File s attributes links size = hlevel props
fits_kind-prop kinds.Directory s attributes links size = hlevel props
fits_kind-prop kinds.Link s attributes links size = hlevel props
fits_kind-prop kinds.InodeFile s attributes links size = hlevel props
fits_kind-prop kinds.InodeMap s attributes links size = hlevel props
fits_kind-prop kinds.BlockMap s attributes links size = hlevel props

fits_body-prop : (layout : Layout) (b : Body) (blocks size : ℕ) → IsProp (FitsBody layout b blocks size)
fits_body-prop layout (Inline bytes) blocks size = hlevel props
fits_body-prop layout (Pointers pointers) blocks size = hlevel (props, points_below-prop)

pub IsRoot-prop : (r : Root) → IsProp (IsRoot r)
IsRoot-prop r = hlevel (props, points_below-prop, fits_kind-prop, fits_body-prop)
