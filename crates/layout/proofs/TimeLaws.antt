-- The time of a record, by the layout of its image.
use Rattle.std.proofs.Common.{Option, Some, None, cond, refl}
use Rattle.model.specs.Attributes.{IsTime, KeepsTime}
use Rattle.model.specs.Sessions.{kept_time}
use Rattle.model.specs.declared.time.Time.{Time}
use Rattle.layout.specs.Limits.{Sizes}
use Rattle.layout.specs.Record.{FitsTime}
use Rattle.layout.specs.StateLimits.{limits_of}
use Rattle.layout.specs.Trees.{has_attributes}
use Rattle.layout.specs.declared.trees.Layout.{Layout}
use Rattle.layout.specs.declared.trees.Layout.TheVariants.{Plain, Summed}

-- a time that a record has is one that a change may have
pub time_kept : (layout : Layout) (time : Option Time) → FitsTime (has_attributes layout) time → KeepsTime (has_attributes layout) time
time_kept Plain None fits = refl
time_kept Plain (Some time) fits = absurd fits
time_kept Summed None fits = absurd fits
time_kept Summed (Some time) fits = (refl, fits)

-- a time that a record has where objects have times
pub time_fits : (layout : Layout) (time : Time) → IsTime time → FitsTime (has_attributes layout) (cond (has_attributes layout) (Some time) None)
time_fits Plain time is = tt
time_fits Summed time is = is

-- the same by the limits of an image
pub now_fits : (s : Sizes) (time : Time) → IsTime time → FitsTime (has_attributes s.layout) (kept_time (limits_of s) time)
now_fits s = time_fits s.layout
