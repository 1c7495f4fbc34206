-- Owners and times of objects, and what changes them.
use Rattle.std.specs.Prelude.{ℕ, Option, Some, None, unwrap_or, is_some, if◌then◌else◌}
use Rattle.fuse.specs.declared.attribute_changes.AttributeChanges.{AttributeChanges}
use Rattle.fuse.specs.declared.attribute_changes.Moment.{Moment}
use Rattle.fuse.specs.declared.attribute_changes.Moment.TheVariants.{Now, At}
use Rattle.fuse.specs.declared.time.Time.{Time}
use Rattle.served.specs.declared.marks.Marks.{Marks}

-- of what is made now, by this user and for this group
abbrev pub made : ℕ → ℕ → Time → Marks
made uid gid now = record { uid = uid; gid = gid; atime = now; mtime = now; ctime = now }

-- behind a change of the object's data
abbrev pub written : Time → Marks → Marks
written now m = record m { mtime = now; ctime = now }

-- behind a change of what is told of the object
abbrev pub changed : Time → Marks → Marks
changed now m = record m { ctime = now }

-- the time that is meant
abbrev pub time_of : Time → Moment → Time
time_of now Now = now
time_of now (At time) = time

-- the time that is set, or else this one
abbrev pub time_set : Time → Option Moment → Time → Time
time_set now (Some moment) before = time_of now moment
time_set now None before = before

-- behind what is set: a size that is set changes the data
abbrev pub marks_set : AttributeChanges → Time → Marks → Marks
marks_set changes now m = record {
  uid = unwrap_or changes.uid m.uid;
  gid = unwrap_or changes.gid m.gid;
  atime = time_set now changes.atime m.atime;
  mtime = time_set now changes.mtime (if is_some changes.size then now else m.mtime);
  ctime = now;
}
