-- The calls' own refusals: none of a call, and of a command, is one that tells of devices, memory or room.
use Rattle.std.proofs.Common.{◌≡◌, ℕ, ℤ, List, [], ◌∷◌, ◌++◌, Bool, true, false, not, ◌&&◌, ◌||◌, is_none, Option, Some, None, refl, sym, ap, ◌∙◌}
use Rattle.std.specs.Prelude.{if◌then◌else◌, nat_abs, nat_lt, min, length, ◌+◌, ◌==◌}
use Rattle.model.specs.declared.limits.Limits.{Limits}
use Rattle.model.specs.declared.attributes.Permissions.{Permissions}
use Rattle.model.specs.declared.session.Session.{Session}
use Rattle.model.specs.declared.time.Time.{Time}
use Rattle.model.specs.declared.limits.TheConstants.{ENTRIES_TOLD, LINK_MODE, OPEN_FILES}
use Rattle.model.specs.declared.errno.Errno.{Errno}
use Rattle.model.specs.declared.errno.Errno.TheVariants.{ENOENT, ENOTDIR, EISDIR, EEXIST, EINVAL, EPERM, EBUSY, EBADF, EMFILE, ENOTEMPTY, EFBIG, EOVERFLOW, EMLINK, EROFS, NOSNAP}
use Rattle.model.specs.declared.reply.Reply.{Reply}
use Rattle.model.specs.declared.reply.Reply.TheVariants as reply
use Rattle.model.specs.declared.command.Command.{Command}
use Rattle.model.specs.declared.command.Command.TheVariants as command
use Rattle.model.specs.declared.command.Flags.{Flags}
use Rattle.model.specs.declared.command.NewTime.{NewTime}
use Rattle.model.specs.declared.command.NewTime.TheVariants.{Omit, Now, At}
use Rattle.model.specs.declared.command.Settings.{Settings}
use Rattle.model.specs.declared.command.Whence.{Whence}
use Rattle.model.specs.declared.command.PathCall.{PathCall}
use Rattle.model.specs.declared.command.PathCall.TheVariants as call
use Rattle.model.specs.Paths.{Name, Path, is_empty, is_root_text, Tests, first_refusal, text_tests_then, text_tests, new_text_tests}
use Rattle.model.specs.Trees.{Tree, Object, directory, symlink, file, number_of_object}
use Rattle.model.specs.Edits.{contents, with_directory, with_symlink}
use Rattle.model.specs.Room.{Room, Need, nothing}
use Rattle.model.specs.Outcomes.{Outcome, refuses, goes_along, lowest_free}
use Rattle.model.specs.declared.entries.Entry.{Entry}
use Rattle.model.specs.Entries.{with_part}
use Rattle.model.specs.Reading as reading
use Rattle.model.specs.Changing as changing
use Rattle.model.specs.Descriptors as descriptors
use Rattle.model.specs.Sessions.{call_time, new_permissions}
use Rattle.model.specs.States.{State, now_of, permissions_in, with_tree}
use Rattle.model.specs.Steps.{Step, says, passing, on_tree, calls, is_reading_call, frozen, take_tests, has_open_below, views, at_tests, WouldStep}
use Rattle.model.specs.Laws.{is_own, RefusesByItsOwn, RefusalsChangeNothing}
use Rattle.model.proofs.OwnLemmas.{Own, refused_same, own_refuses, IsGood, good_own, own_answers, own_changes, own_swept, TestsOwn, RefusesOwn, first_own, own_tested, own_test, own_two, own_three, own_either, own_along, own_to, own_names, own_place, own_fresh, own_links, never, own_described, by_kind, tests_append, text_own, plain_own, new_own}

-- the calls

own_tells : (t : Tree) (o : Object) → Own t (reading.tells_stat t o)
own_tells t o = own_links t o _ (λ links. own_answers t _ tt)

own_stat : (limits : Limits) (t : Tree) (follow : Bool) (path : List ℕ) → Own t (reading.stats limits t follow path)
own_stat limits t follow path = own_tested t (text_tests limits path) _ (plain_own limits path) (own_to t follow path _ (λ p o. own_tells t o))

own_attributes : (t : Tree) (o : Object) → Own t (reading.tells_attributes t o)
own_attributes t o = own_links t o _ (λ links. own_answers t _ tt)

own_attr : (limits : Limits) (t : Tree) (follow : Bool) (path : List ℕ) → Own t (reading.attributes limits t follow path)
own_attr limits t follow path =
    own_tested t (reading.attribute_tests limits ++ text_tests limits path) _ (refl, plain_own limits path) (own_to t follow path _ (λ p o. own_attributes t o))

own_list : (limits : Limits) (t : Tree) (path : List ℕ) → Own t (reading.lists limits t path)
own_list limits t path =
    own_tested t (text_tests limits path) _ (plain_own limits path)
    (own_to t true path _ (λ p o. by_kind t o _ _ _ (λ n. own_names t p _ (λ names. own_answers t _ tt)) (λ n text. own_refuses t ENOTDIR refl) (λ n. own_refuses t ENOTDIR refl)))

own_part : (t : Tree) (p : Path) (names : List Name) (after count : ℕ) (rest : List Entry → Outcome) → ((entries : List Entry) → Own t (rest entries)) → Own t (with_part t p names after count rest)
own_part t p names after count rest own answer new need (told, entries, part, each, done) = own entries answer new need done

own_entries : (limits : Limits) (t : Tree) (path : List ℕ) (after : ℤ) (count : ℕ) → Own t (reading.tells_entries limits t path after count)
own_entries limits t path after count =
    own_tested t (text_tests_then limits ((reading.is_negative after || count == 0 || nat_lt ENTRIES_TOLD count, EINVAL) ∷ []) path) _
    (text_own limits ((reading.is_negative after || count == 0 || nat_lt ENTRIES_TOLD count, EINVAL) ∷ []) path (refl, tt))
    (own_to t true path _ (λ p o. by_kind t o _ _ _
    (λ n. own_names t p _ (λ names. own_part t p names (nat_abs after) count _ (λ entries. own_answers t _ tt)))
    (λ n text. own_refuses t ENOTDIR refl)
    (λ n. own_refuses t ENOTDIR refl)))

own_readlink : (limits : Limits) (t : Tree) (path : List ℕ) → Own t (reading.reads_link limits t path)
own_readlink limits t path =
    own_tested t (text_tests limits path) _ (plain_own limits path)
    (own_to t false path _ (λ p o. by_kind t o _ _ _ (λ n. own_refuses t EINVAL refl) (λ n text. own_answers t _ tt) (λ n. own_refuses t EINVAL refl)))

own_get : (limits : Limits) (t : Tree) (path : List ℕ) (offset : ℤ) (count : ℕ) → Own t (reading.gets limits t path offset count)
own_get limits t path offset count =
    own_tested t (text_tests_then limits ((reading.is_negative offset || reading.is_too_many count, EINVAL) ∷ []) path) _ (text_own limits ((reading.is_negative offset || reading.is_too_many count, EINVAL) ∷ []) path (refl, tt))
    (own_to t true path _ (λ p o. by_kind t o _ _ _ (λ n. own_refuses t EISDIR refl) (λ n text. never t) (λ n. own_answers t _ tt)))

own_creates : (limits : Limits) (now : Option Time) (t : Tree) (path : List ℕ) (make : Path → ℕ → Tree → Tree) → Own t (changing.creates limits now t path make)
own_creates limits now t path make =
    own_tested t (new_text_tests limits path) _ (new_own limits path)
    (own_along t false path _ _ (λ p o. own_refuses t EEXIST refl) (λ p name. own_place limits t p _ (own_fresh limits t _ (λ n. own_changes _ _ _ _ tt))))

own_symlink : (limits : Limits) (now : Option Time) (t : Tree) (text path : List ℕ) (permissions : Permissions) → Own t (changing.makes_symlink limits now t text path permissions)
own_symlink limits now t text path permissions =
    own_tested t (changing.link_text_tests limits text) _ (refl, (refl, (refl, tt))) (own_creates limits now t path (λ p n. with_symlink p n permissions text))

own_removes : (now : Option Time) (t : Tree) (p : Path) → Own t (changing.removes now t p)
own_removes now t p = own_swept _ _ _ _ tt

own_rmdir : (limits : Limits) (now : Option Time) (t : Tree) (path : List ℕ) → Own t (changing.removes_directory limits now t path)
own_rmdir limits now t path =
    own_tested t (new_text_tests limits path ++ (is_root_text path, EBUSY) ∷ []) _ (tests_append (new_text_tests limits path) ((is_root_text path, EBUSY) ∷ []) (new_own limits path) (refl, tt))
    (own_to t false path _ (λ p o. by_kind t o _ _ _ (λ n. own_names t p _ (λ names. own_test t _ ENOTEMPTY _ refl (own_removes now t p))) (λ n text. own_refuses t ENOTDIR refl) (λ n. own_refuses t ENOTDIR refl)))

own_unlink : (limits : Limits) (now : Option Time) (t : Tree) (path : List ℕ) → Own t (changing.unlinks limits now t path)
own_unlink limits now t path =
    own_tested t (new_text_tests limits path) _ (new_own limits path)
    (own_to t false path _ (λ p o. own_test t _ EPERM _ refl (own_removes now t p)))

own_link : (limits : Limits) (now : Option Time) (t : Tree) (old path : List ℕ) → Own t (changing.links limits now t old path)
own_link limits now t old path =
    own_tested t (text_tests limits old ++ new_text_tests limits path) _ (tests_append (text_tests limits old) (new_text_tests limits path) (plain_own limits old) (new_own limits path))
    (own_to t false old _ (λ p o. by_kind t o _ _ _ (λ n. own_refuses t EPERM refl) (λ n text. own_refuses t EPERM refl) (λ n.
    own_along t false path _ _ (λ q r. own_refuses t EEXIST refl) (λ q name.
    own_links t (file n) _ (λ count. own_test t _ EMLINK _ refl (own_place limits t q _ (own_changes _ _ _ _ tt)))))))

own_target : (limits : Limits) (t : Tree) (p q : Path) (r : Option Object) (rest : Outcome) → Own t rest → Own t (changing.with_target limits t p q r rest)
own_target limits t p q None rest own = own_either t _ rest _ own (own_place limits t _ rest own)
own_target limits t p q (Some (directory n)) rest own = own_names t q _ (λ names. own_test t (not (is_empty names)) ENOTEMPTY rest refl own)
own_target limits t p q (Some (symlink n text)) rest own = own
own_target limits t p q (Some (file n)) rest own = own

own_moves : (limits : Limits) (now : Option Time) (t : Tree) (p : Path) (o : Object) (q : Path) → Own t (changing.moves limits now t p o q)
own_moves limits now t p o q =
    own_either t _ _ _ (own_answers t _ tt) (own_tested t (changing.move_tests p o q (t.objects q)) _ (refl, (refl, (refl, tt))) (own_target limits t p q (t.objects q) _ (own_swept _ _ _ _ tt)))

own_rename : (limits : Limits) (now : Option Time) (t : Tree) (only_new : Bool) (old path : List ℕ) → Own t (changing.renames limits now t only_new old path)
own_rename limits now t only_new old path =
    own_tested t (new_text_tests limits old ++ new_text_tests limits path ++ (is_root_text old || is_root_text path, EBUSY) ∷ []) _ (tests_append (new_text_tests limits old ++ new_text_tests limits path) ((is_root_text old || is_root_text path, EBUSY) ∷ []) (tests_append (new_text_tests limits old) (new_text_tests limits path) (new_own limits old) (new_own limits path)) (refl, tt))
    (own_to t false old _ (λ p o. own_along t false path _ _ (λ q r. own_test t only_new EEXIST _ refl (own_moves limits now t p o q)) (λ q name. own_moves limits now t p o (q ++ name ∷ []))))

own_chmod : (limits : Limits) (now : Option Time) (t : Tree) (path : List ℕ) (mode : ℕ) → Own t (changing.changes_mode limits now t path mode)
own_chmod limits now t path mode =
    own_tested t (text_tests limits path) _ (plain_own limits path)
    (own_to t true path _ (λ p o. by_kind t o _ _ _ (λ n. own_changes _ _ _ _ tt) (λ n text. never t) (λ n. own_changes _ _ _ _ tt)))

own_owners : (now : Option Time) (t : Tree) (n : ℕ) (owner group : Option ℕ) → Own t (changing.gives_owners now t n owner group)
own_owners now t n owner group = own_either t _ _ _ (own_answers t _ tt) (own_changes _ _ _ _ tt)

own_time : (now : Option Time) (t : Tree) (n : ℕ) (time : Option Time) → Own t (changing.gives_time now t n time)
own_time now t n None = own_answers t _ tt
own_time now t n (Some time) = own_changes _ _ _ _ tt

own_times : (time : NewTime) → TestsOwn (changing.time_tests time)
own_times Omit = tt
own_times Now = tt
own_times (At seconds nanoseconds) = (refl, tt)

own_chown : (limits : Limits) (now : Option Time) (t : Tree) (follow : Bool) (path : List ℕ) (owner group : Option ℕ) → Own t (changing.changes_owners limits now t follow path owner group)
own_chown limits now t follow path owner group =
    own_tested t (reading.attribute_tests limits ++ text_tests limits path) _ (refl, plain_own limits path)
    (own_to t follow path _ (λ p o. own_owners now t (number_of_object o) owner group))

own_utimens : (limits : Limits) (now : Option Time) (t : Tree) (follow : Bool) (path : List ℕ) (time : NewTime) → Own t (changing.changes_times limits now t follow path time)
own_utimens limits now t follow path time =
    own_tested t (reading.attribute_tests limits ++ text_tests limits path ++ changing.time_tests time) _
    (refl, tests_append (text_tests limits path) (changing.time_tests time) (plain_own limits path) (own_times time))
    (own_to t follow path _ (λ p o. own_time now t (number_of_object o) (changing.meant_time now time)))

own_truncate : (limits : Limits) (now : Option Time) (t : Tree) (path : List ℕ) (size : ℤ) → Own t (changing.truncates limits now t path size)
own_truncate limits now t path size =
    own_tested t (text_tests_then limits (changing.size_tests limits size) path) _ (text_own limits (changing.size_tests limits size) path (refl, (refl, tt)))
    (own_to t true path _ (λ p o. by_kind t o _ _ _ (λ n. own_refuses t EISDIR refl) (λ n text. never t) (λ n. own_changes _ _ _ _ tt)))

own_sets_mode : (now : Option Time) (t : Tree) (n : ℕ) (mode : Option ℕ) → Own t (changing.sets_mode now t n mode)
own_sets_mode now t n None = own_answers t _ tt
own_sets_mode now t n (Some mode) = own_changes _ _ _ _ tt

own_sets_file : (now : Option Time) (t : Tree) (n : ℕ) (mode : Option ℕ) (size : Option ℤ) → Own t (changing.sets_file now t n mode size)
own_sets_file now t n mode None = own_sets_mode now t n mode
own_sets_file now t n None (Some size) = own_changes _ _ _ _ tt
own_sets_file now t n (Some mode) (Some size) = own_either t _ _ _ (own_changes _ _ _ _ tt) (own_changes _ _ _ _ tt)

own_sizes : (limits : Limits) (size : Option ℤ) → TestsOwn (changing.given_size_tests limits size)
own_sizes limits None = tt
own_sizes limits (Some size) = (refl, (refl, tt))

own_set : (limits : Limits) (now : Option Time) (t : Tree) (path : List ℕ) (settings : Settings) → Own t (changing.sets limits now t path settings)
own_set limits now t path settings =
    own_tested t (text_tests_then limits (changing.given_size_tests limits settings.size) path) _ (text_own limits (changing.given_size_tests limits settings.size) path (own_sizes limits settings.size))
    (own_to t true path _ (λ p o. by_kind t o _ _ _ (λ n. own_test t _ EISDIR _ refl (own_sets_mode now t n settings.mode)) (λ n text. never t) (λ n. own_sets_file now t n settings.mode settings.size)))

own_opens_file : (old : Tree) (tells : Bool) (n : ℕ) (flags : Flags) (fd : ℕ) (t : Tree) (need : Need) → Own old (descriptors.opens_file tells n flags fd t need)
own_opens_file old true n flags fd t need answer new other done errno is = good_own (reply.Opened fd _) tt errno (sym done.2.0 ∙ is)
own_opens_file old false n flags fd t need answer new other done errno is = good_own (reply.Fd fd) tt errno (sym done.0 ∙ is)

own_opens_object : (tells : Bool) (now : Option Time) (t : Tree) (o : Object) (flags : Flags) (fd : ℕ) → Own t (descriptors.opens_object tells now t o flags fd)
own_opens_object tells now t o flags fd =
    own_test t _ EEXIST _ refl (by_kind t o _ _ _ (λ n. own_refuses t EISDIR refl) (λ n text. never t) (λ n. own_either t _ _ _ (own_opens_file t tells n flags fd _ _) (own_opens_file t tells n flags fd _ _)))

own_opens_new : (tells : Bool) (limits : Limits) (now : Option Time) (t : Tree) (p : Path) (name : Name) (flags : Flags) (permissions : Permissions) (fd : ℕ) → Own t (descriptors.opens_new tells limits now t p name flags permissions fd)
own_opens_new tells limits now t p name flags permissions fd =
    own_test t _ ENOENT _ refl (own_place limits t p _ (own_fresh limits t _ (λ n. own_opens_file t tells n flags fd _ _)))

own_open : (tells : Bool) (below : ℕ) (limits : Limits) (now : Option Time) (t : Tree) (path : List ℕ) (flags : Flags) (permissions : Permissions) → Own t (descriptors.opens tells below limits now t path flags permissions)
own_open tells below limits now t path flags permissions =
    own_tested t (text_tests_then limits (descriptors.open_tests flags) path) _ (text_own limits (descriptors.open_tests flags) path (refl, (refl, tt)))
    (elim (lowest_free t.descriptors (min below OPEN_FILES)) as (λ o. Own t (elim o as (λ _. Outcome) [
      | None ↦ refuses t EMFILE
      | Some fd ↦ goes_along t (not (flags.creates && flags.exclusive)) path (λ p o. descriptors.opens_object tells now t o flags fd) (λ p name. descriptors.opens_new tells limits now t p name flags permissions fd)
    ])) [
      | None ↦ own_refuses t EMFILE refl
      | Some fd ↦ own_along t (not (flags.creates && flags.exclusive)) path _ _ (λ p o. own_opens_object tells now t o flags fd) (λ p name. own_opens_new tells limits now t p name flags permissions fd)
    ])

own_puts : (limits : Limits) (now : Option Time) (t : Tree) (n offset : ℕ) (given : List ℕ) (also : Tree → Tree) → Own t (descriptors.puts limits now t n offset given also)
own_puts limits now t n offset given also = own_either t _ _ _ (own_answers t _ tt) (own_test t _ EFBIG _ refl (own_changes _ _ _ _ tt))

own_close : (t : Tree) (fd : ℕ) → Own t (descriptors.closes t fd)
own_close t fd = own_described t fd _ (λ f. own_swept _ _ _ _ tt)

own_read : (t : Tree) (fd count : ℕ) → Own t (descriptors.reads t fd count)
own_read t fd count = own_described t fd _ (λ f. own_two t _ _ EBADF EINVAL _ refl refl (own_changes _ _ _ _ tt))

own_write : (limits : Limits) (now : Option Time) (t : Tree) (fd : ℕ) (given : List ℕ) → Own t (descriptors.writes limits now t fd given)
own_write limits now t fd given =
    own_described t fd _ (λ f.
    let offset = if f.appends then length (contents t f.number) else f.offset in
    own_two t (not f.writes) (reading.is_too_many (length given)) EBADF EINVAL (descriptors.puts limits now t f.number offset given (descriptors.with_offset fd f (offset + length given))) refl refl
    (own_puts limits now t f.number offset given (descriptors.with_offset fd f (offset + length given))))

own_pread : (t : Tree) (fd : ℕ) (offset : ℤ) (count : ℕ) → Own t (descriptors.reads_from t fd offset count)
own_pread t fd offset count = own_described t fd _ (λ f. own_two t _ _ EBADF EINVAL _ refl refl (own_answers t _ tt))

own_pwrite : (limits : Limits) (now : Option Time) (t : Tree) (fd : ℕ) (offset : ℤ) (given : List ℕ) → Own t (descriptors.writes_to limits now t fd offset given)
own_pwrite limits now t fd offset given =
    own_described t fd _ (λ f.
    own_two t (not f.writes) (reading.is_negative offset || reading.is_too_many (length given)) EBADF EINVAL (descriptors.puts limits now t f.number (nat_abs offset) given (λ after. after)) refl refl
    (own_puts limits now t f.number (nat_abs offset) given (λ after. after)))

own_seek : (t : Tree) (fd : ℕ) (from : Whence) (offset : ℤ) → Own t (descriptors.seeks t fd from offset)
own_seek t fd from offset = own_described t fd _ (λ f. own_two t _ _ EINVAL EOVERFLOW _ refl refl (own_changes _ _ _ _ tt))

own_ftruncate : (limits : Limits) (now : Option Time) (t : Tree) (fd : ℕ) (size : ℤ) → Own t (descriptors.truncates_open limits now t fd size)
own_ftruncate limits now t fd size = own_described t fd _ (λ f. own_three t (not f.writes) (reading.is_negative size) (nat_lt limits.file_bytes (nat_abs size)) EINVAL EINVAL EFBIG (changing.truncates_file now t f.number (nat_abs size)) refl refl refl (own_changes _ _ _ _ tt))

own_fchmod : (now : Option Time) (t : Tree) (fd mode : ℕ) → Own t (descriptors.changes_open_mode now t fd mode)
own_fchmod now t fd mode = own_described t fd _ (λ f. own_changes _ _ _ _ tt)

own_fchown : (limits : Limits) (now : Option Time) (t : Tree) (fd : ℕ) (owner group : Option ℕ) → Own t (descriptors.changes_open_owners limits now t fd owner group)
own_fchown limits now t fd owner group =
    own_tested t (reading.attribute_tests limits) _ (refl, tt) (own_described t fd _ (λ f. own_owners now t f.number owner group))

own_futimens : (limits : Limits) (now : Option Time) (t : Tree) (fd : ℕ) (time : NewTime) → Own t (descriptors.changes_open_times limits now t fd time)
own_futimens limits now t fd time =
    own_tested t (reading.attribute_tests limits) _ (refl, tt)
    (own_described t fd _ (λ f. own_tested t (changing.time_tests time) _ (own_times time) (own_time now t f.number (changing.meant_time now time))))

own_fattr : (limits : Limits) (t : Tree) (fd : ℕ) → Own t (descriptors.attributes_open limits t fd)
own_fattr limits t fd = own_tested t (reading.attribute_tests limits) _ (refl, tt) (own_described t fd _ (λ f. own_attributes t (file f.number)))

own_fstat : (t : Tree) (fd : ℕ) → Own t (descriptors.stats_open t fd)
own_fstat t fd = own_described t fd _ (λ f. own_tells t (file f.number))

own_fsync : (t : Tree) (fd : ℕ) → Own t (descriptors.syncs_open t fd)
own_fsync t fd = own_described t fd _ (λ f. own_answers t _ tt)

own_store : (limits : Limits) (now : Option Time) (t : Tree) (path : List ℕ) (offset : ℤ) (given : List ℕ) → Own t (descriptors.stores limits now t path offset given)
own_store limits now t path offset given =
    own_tested t (text_tests_then limits ((reading.is_negative offset || reading.is_too_many (length given), EINVAL) ∷ []) path) _
    (text_own limits ((reading.is_negative offset || reading.is_too_many (length given), EINVAL) ∷ []) path (refl, tt))
    (own_to t true path _ (λ p o. by_kind t o _ _ _ (λ n. own_refuses t EISDIR refl) (λ n text. never t) (λ n. own_puts limits now t n (nat_abs offset) given (λ after. after))))

own_extent : (limits : Limits) (t : Tree) (stored : ℕ → ℕ → Bool) (path : List ℕ) (offset : ℤ) → Own t (reading.tells_extent limits t stored path offset)
own_extent limits t stored path offset =
    own_tested t (text_tests_then limits ((reading.is_negative offset, EINVAL) ∷ []) path) _ (text_own limits ((reading.is_negative offset, EINVAL) ∷ []) path (refl, tt))
    (own_to t true path _ (λ p o. by_kind t o _ _ _ (λ n. own_refuses t EISDIR refl) (λ n text. never t) (λ n answer new need (extent, tells, done). own_answers t (reply.Extent extent) tt answer new need done)))

own_path : (limits : Limits) (said : Session) (t : Tree) (c : PathCall) → Own t (calls limits said t c)
own_path limits said t (call.List path) = own_list limits t path
own_path limits said t (call.Entries path after count) = own_entries limits t path after count
own_path limits said t (call.Stat path) = own_stat limits t true path
own_path limits said t (call.Lstat path) = own_stat limits t false path
own_path limits said t (call.Attr path follow) = own_attr limits t follow path
own_path limits said t (call.Readlink path) = own_readlink limits t path
own_path limits said t (call.Get path offset count) = own_get limits t path offset count
own_path limits said t (call.Mkdir path mode) = own_creates limits (call_time limits said) t path (λ p n. with_directory p n (new_permissions limits said mode))
own_path limits said t (call.Rmdir path) = own_rmdir limits (call_time limits said) t path
own_path limits said t (call.Unlink path) = own_unlink limits (call_time limits said) t path
own_path limits said t (call.Link old path) = own_link limits (call_time limits said) t old path
own_path limits said t (call.Symlink text path) = own_symlink limits (call_time limits said) t text path (new_permissions limits said LINK_MODE)
own_path limits said t (call.Rename old path) = own_rename limits (call_time limits said) t false old path
own_path limits said t (call.RenameNew old path) = own_rename limits (call_time limits said) t true old path
own_path limits said t (call.Chmod path mode) = own_chmod limits (call_time limits said) t path mode
own_path limits said t (call.Chown path follow owner group) = own_chown limits (call_time limits said) t follow path owner group
own_path limits said t (call.Utimens path follow time) = own_utimens limits (call_time limits said) t follow path time
own_path limits said t (call.Truncate path size) = own_truncate limits (call_time limits said) t path size
own_path limits said t (call.Store path offset given) = own_store limits (call_time limits said) t path offset given
own_path limits said t (call.Set path settings) = own_set limits (call_time limits said) t path settings

-- the commands

abbrev OwnStep : State → Step → Type 0
OwnStep s step =
    (answer : Reply) (new : State) (need : Need) → step answer new need → (errno : Errno) → answer ≡ reply.Refused errno
    → (is_own errno ≡ true) × (new ≡ s) × (need ≡ nothing)

own_on_tree : (s : State) (outcome : Outcome) → Own s.tree outcome → OwnStep s (on_tree s outcome)
own_on_tree s outcome own answer new need done errno is =
    let refusal = own answer new.tree need done.0 errno is in
    (refusal.0, done.1 ∙ ap (λ x. with_tree x s) refusal.1, refusal.2)

own_says : (s : State) (r : Reply) → IsGood r → OwnStep s (says s r)
own_says s r good answer new need done errno is = good_own r good errno (sym done.0 ∙ is)

own_refusal : (s : State) (e : Errno) → is_own e ≡ true → OwnStep s (says s (reply.Refused e))
own_refusal s e own answer new need done errno is = (ap is_own (refused_same errno e (sym is ∙ done.0)) ∙ own, done.1, done.2)

own_passing : (s : State) (tests : Tests) (rest : Step) → TestsOwn tests → OwnStep s rest → OwnStep s (passing s tests rest)
own_passing s tests rest own more =
    elim (first_refusal tests) as (λ o. RefusesOwn o → OwnStep s (elim o as (λ _. Step) [ Some errno ↦ says s (reply.Refused errno) | None ↦ rest ])) [
      | Some errno ↦ λ is. own_refusal s errno is
      | None ↦ λ is. more
    ] (first_own tests own)

own_views : (s : State) (name : Name) (c : PathCall) → OwnStep s (views s name c)
own_views s name c =
    elim (frozen s name) as (λ o. OwnStep s (elim o as (λ _. Step) [
      | None ↦ says s (reply.Refused NOSNAP)
      | Some pair ↦ passing s ((not (is_reading_call c), EROFS) ∷ []) (λ answer new need. calls s.limits s.session pair.1 c answer pair.1 need × (new ≡ s))
    ])) [
      | None ↦ own_refusal s NOSNAP refl
      | Some pair ↦ own_passing s ((not (is_reading_call c), EROFS) ∷ []) _ (refl, tt) (λ answer new need done errno is. let refusal = own_path s.limits s.session pair.1 c answer pair.1 need done.0 errno is in (refusal.0, done.1, refusal.2))
    ]

own_step : (room : Room) (s : State) (c : Command) → OwnStep s (WouldStep room s c)
own_step room s (command.Path c) = own_on_tree s (calls s.limits s.session s.tree c) (own_path s.limits s.session s.tree c)
own_step room s (command.Open path flags mode below) =
    own_on_tree s (descriptors.opens false below s.limits (now_of s) s.tree path flags (permissions_in s mode)) (own_open false below s.limits (now_of s) s.tree path flags (permissions_in s mode))
own_step room s (command.OpenStat path flags mode below) =
    own_on_tree s (descriptors.opens true below s.limits (now_of s) s.tree path flags (permissions_in s mode)) (own_open true below s.limits (now_of s) s.tree path flags (permissions_in s mode))
own_step room s (command.Close fd) = own_on_tree s (descriptors.closes s.tree fd) (own_close s.tree fd)
own_step room s (command.Read fd count) = own_on_tree s (descriptors.reads s.tree fd count) (own_read s.tree fd count)
own_step room s (command.Write fd given) = own_on_tree s (descriptors.writes s.limits (now_of s) s.tree fd given) (own_write s.limits (now_of s) s.tree fd given)
own_step room s (command.Pread fd offset count) = own_on_tree s (descriptors.reads_from s.tree fd offset count) (own_pread s.tree fd offset count)
own_step room s (command.Pwrite fd offset given) = own_on_tree s (descriptors.writes_to s.limits (now_of s) s.tree fd offset given) (own_pwrite s.limits (now_of s) s.tree fd offset given)
own_step room s (command.Lseek fd from offset) = own_on_tree s (descriptors.seeks s.tree fd from offset) (own_seek s.tree fd from offset)
own_step room s (command.Ftruncate fd size) = own_on_tree s (descriptors.truncates_open s.limits (now_of s) s.tree fd size) (own_ftruncate s.limits (now_of s) s.tree fd size)
own_step room s (command.Fchmod fd mode) = own_on_tree s (descriptors.changes_open_mode (now_of s) s.tree fd mode) (own_fchmod (now_of s) s.tree fd mode)
own_step room s (command.Fchown fd owner group) = own_on_tree s (descriptors.changes_open_owners s.limits (now_of s) s.tree fd owner group) (own_fchown s.limits (now_of s) s.tree fd owner group)
own_step room s (command.Futimens fd time) = own_on_tree s (descriptors.changes_open_times s.limits (now_of s) s.tree fd time) (own_futimens s.limits (now_of s) s.tree fd time)
own_step room s (command.Fstat fd) = own_on_tree s (descriptors.stats_open s.tree fd) (own_fstat s.tree fd)
own_step room s (command.Fattr fd) = own_on_tree s (descriptors.attributes_open s.limits s.tree fd) (own_fattr s.limits s.tree fd)
own_step room s (command.Fsync fd) = own_on_tree s (descriptors.syncs_open s.tree fd) (own_fsync s.tree fd)
own_step room s (command.Extent path offset) = own_on_tree s (reading.tells_extent s.limits s.tree room.stored path offset) (own_extent s.limits s.tree room.stored path offset)
own_step room s (command.At seconds nanoseconds) = own_passing s (at_tests s nanoseconds) _ (refl, (refl, tt)) (λ answer new need done errno is. good_own reply.Done tt errno (sym done.0 ∙ is))
own_step room s (command.As owner group) = own_passing s (reading.attribute_tests s.limits) _ (refl, tt) (λ answer new need done errno is. good_own reply.Done tt errno (sym done.0 ∙ is))
own_step room s command.Sync = own_says s _ tt
own_step room s command.Df = own_says s _ tt
own_step room s command.Statfs = λ answer new need done errno is. own_says s _ tt answer new need done.2 errno is
own_step room s (command.SnapTake name) = own_passing s (take_tests s name) _ (refl, (refl, (refl, tt))) (λ answer new need done errno is. good_own reply.Done tt errno (sym done.0 ∙ is))
own_step room s (command.SnapDelete name) = own_passing s ((is_none (frozen s name), NOSNAP) ∷ []) _ (refl, tt) (λ answer new need done errno is. good_own reply.Done tt errno (sym done.0 ∙ is))
own_step room s (command.SnapRestore name) = own_passing s ((is_none (frozen s name), NOSNAP) ∷ (has_open_below s.tree OPEN_FILES, EBUSY) ∷ []) _ (refl, (refl, tt)) (λ answer new need done errno is. good_own reply.Done tt errno (sym done.0 ∙ is))
own_step room s command.SnapList = own_says s _ tt
own_step room s (command.Within name c) = own_views s name c

pub refuses_by_its_own : RefusesByItsOwn
refuses_by_its_own room s new c need errno done = (own_step room s c (reply.Refused errno) new need done errno refl).0

pub refusals_change_nothing : RefusalsChangeNothing
refusals_change_nothing room s new c need errno done =
    let refusal = own_step room s c (reply.Refused errno) new need done errno refl in
    (refusal.1, refusal.2)
