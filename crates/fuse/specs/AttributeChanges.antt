-- What a request asks to change of an object's attributes: three groups of fields, and what they
-- ask.
use Rattle.std.specs.Prelude.{ℕ, if◌then◌else◌}
use Rattle.layout.specs.Format.{Format, num, ◌▸◌}
use Rattle.fuse.specs.Flags.{is_set, given}
use Rattle.fuse.specs.declared.opcode.TheConstants.{FATTR_MODE, FATTR_UID, FATTR_GID, FATTR_SIZE, FATTR_ATIME, FATTR_MTIME, FATTR_FH, FATTR_ATIME_NOW, FATTR_MTIME_NOW, FATTR_CTIME, FATTR_KILL_SUIDGID}
use Rattle.fuse.specs.declared.time.Time.{Time}
use Rattle.fuse.specs.declared.attribute_changes.AttributeChanges.{AttributeChanges}
use Rattle.fuse.specs.declared.attribute_changes.Moment.{Moment}
use Rattle.fuse.specs.declared.attribute_changes.Moment.TheVariants.{Now, At}
use Rattle.fuse.specs.declared.attribute_changes.Targets.{Targets}
use Rattle.fuse.specs.declared.attribute_changes.Times.{Times}
use Rattle.fuse.specs.declared.attribute_changes.Rights.{Rights}

-- which are given, four bytes of padding, handle, size, the lock's owner
abbrev pub TargetsFields : Type 0
TargetsFields = ℕ × (ℕ × (ℕ × (ℕ × ℕ)))

abbrev pub targets_fields : Format TargetsFields
targets_fields = num 4 ▸ num 4 ▸ num 8 ▸ num 8 ▸ num 8

-- seconds of the last reading, the last writing and the last change, and their nanoseconds
abbrev pub TimesFields : Type 0
TimesFields = ℕ × (ℕ × (ℕ × (ℕ × (ℕ × ℕ))))

abbrev pub times_fields : Format TimesFields
times_fields = num 8 ▸ num 8 ▸ num 8 ▸ num 4 ▸ num 4 ▸ num 4

-- mode, four unused bytes, user, group, four unused bytes
abbrev pub RightsFields : Type 0
RightsFields = ℕ × (ℕ × (ℕ × (ℕ × ℕ)))

abbrev pub rights_fields : Format RightsFields
rights_fields = num 4 ▸ num 4 ▸ num 4 ▸ num 4 ▸ num 4

abbrev pub targets_of : Targets → TargetsFields
targets_of t = (t.valid, (t.padding, (t.handle, (t.size, t.lock_owner))))

abbrev pub times_of : Times → TimesFields
times_of t = (
  t.atime.seconds,
  (
    t.mtime.seconds,
    (
      t.ctime.seconds,
      (t.atime.nanoseconds, (t.mtime.nanoseconds, t.ctime.nanoseconds)),
    ),
  ),
)

abbrev pub rights_of : Rights → RightsFields
rights_of r = (r.mode, (r.unused, (r.uid, (r.gid, r.last_unused))))

abbrev pub time : ℕ → ℕ → Time
time seconds nanoseconds = record { seconds = seconds; nanoseconds = nanoseconds }

-- the time, or now where that bit is set
abbrev pub moment_in : ℕ → ℕ → Time → Moment
moment_in valid now at = if is_set valid now then Now else At at

-- what the fields ask
unfoldable pub changes_of : TargetsFields → TimesFields → RightsFields → AttributeChanges
changes_of (valid, (padding, (handle, (size, lock_owner))))
    (atime, (mtime, (ctime, (atime_n, (mtime_n, ctime_n)))))
    (mode, (unused, (uid, (gid, last_unused)))) =
    record {
      mode = given valid FATTR_MODE mode;
      uid = given valid FATTR_UID uid;
      gid = given valid FATTR_GID gid;
      size = given valid FATTR_SIZE size;
      atime = given valid FATTR_ATIME (moment_in valid FATTR_ATIME_NOW (time atime atime_n));
      mtime = given valid FATTR_MTIME (moment_in valid FATTR_MTIME_NOW (time mtime mtime_n));
      ctime = given valid FATTR_CTIME (time ctime ctime_n);
      handle = given valid FATTR_FH handle;
      kills_set_id = is_set valid FATTR_KILL_SUIDGID;
    }
