-- What a message is answered with, and how serving goes on.
use Rattle.std.proofs.Common.{◌≡◌, ◌==◌, ◌++◌, ◌∙◌, List, [], ◌∷◌, ℕ, Bool, Option, Some, None, Result, Ok, Err, true, false, length, append_assoc, append-nil, arith, ap, drop, inl, inr, length-append, length-drop, length-take, map, refl, subst, sym, take}
use Rattle.std.proofs.KnownBytes.{Appends-nil, Appends-trans, Consumes-kept, Consumes-nil, Consumes-trans}
use Rattle.std.proofs.lemmas.Bool.Decides.{nat_tests}
use Rattle.std.proofs.lemmas.Grind.{flat_map-append}
use Rattle.std.proofs.lemmas.List.{map-append}
use Rattle.std.specs.Io.KnownBytes.{Appends, Consumes, Keeps}
use Rattle.std.specs.List.{flat_map}
use Rattle.channel.specs.Sending.{Went}
use Rattle.channel.specs.declared.channel.Channel.{Ghosts as Channel}
use Rattle.channel.specs.declared.channel.Ended.{Ended}
use Rattle.channel.specs.declared.channel.Ended.TheVariants.{Unmounted, Failed}
use Rattle.channel.specs.declared.channel.Sent.{Sent}
use Rattle.file_system.specs.declared.file_system.FileSystem.{Ghosts}
use Rattle.fuse.specs.Head.{fields_of, head}
use Rattle.fuse.specs.Replies.{error_text}
use Rattle.fuse.specs.Request.{IsRequest, RequestValue}
use Rattle.fuse.specs.declared.head.Head.{Head}
use Rattle.fuse.specs.declared.time.Time.{Time}
use Rattle.model.specs.declared.errno.Errno.{Errno}
use Rattle.model.specs.declared.errno.Errno.TheVariants as errno
use Rattle.model.specs.declared.errno.Errno.TheVariants.{ENOMEM}
use Rattle.served.specs.Durability.{answers_in, settles}
use Rattle.served.specs.Kept.{Owed, lost_by, owed, owed_behind}
use Rattle.served.specs.Known.{Known}
use Rattle.served.specs.Replying.{linux_number, spelled}
use Rattle.served.specs.Serving.{AreBatches, AreHeard, AreSent, Batch, Exchange, HasEnded, HasStopped, Hears, IsAnswered, IsBatch, IsEndedBy, IsHeard, IsSent, MayAsk, Passed, Serves, Settles, Stage, Stops, asker_of, came_of, ending_behind, ending_of, gone_of, known_at_mount, lost_text, messages_of, questions_of, refusal_of, refused_text, stage, told_behind, unlearnt}
use Rattle.served.specs.Snapshots.{Learnt, learns}
use Rattle.served.specs.Turns.{Came, gives, if_memory}
use Rattle.served.specs.UnderWay.{AreOwed, HasAnswered, HasCome, IsUnderWay, KeepsNone}
use Rattle.served.specs.declared.answer.Answer.{Answer}
use Rattle.served.specs.declared.durability.Durability.{Durability}
use Rattle.served.specs.declared.durability.Durability.TheVariants.{Together, Deferred}
use Rattle.served.specs.declared.numbers.TheConstants.{REQUEST_BYTES}
use Rattle.served.specs.declared.serving.Ending.{Ending}
use Rattle.served.specs.declared.serving.Ending.TheVariants.{NoMemory}
use Rattle.served.specs.declared.serving.Owner.{Owner}
use Rattle.served.proofs.TurnLaws.{came_gives, came_kept, came_lost}

module _ {S : Type 0} (G : Ghosts S) (d : Durability) where
  -- a request was answered, and the message spells no other
  pub answered : (old new : S) (k known : Known) (now : Time) (message : List ℕ) (q : RequestValue) (told : Answer)
      → IsRequest message q → ((r : RequestValue) → IsRequest message r → q ≡ r)
      → Came G old new (answers_in d k (asker_of q.head now) q.head.node q.operation) (told, known)
      → IsAnswered G d old new k known now message (spelled q.head.unique told)
  answered old new k known now message q told is only came = record {
    request = λ r is_one. subst (λ (x : RequestValue).
        (a : Answer) × Came G old new (answers_in d k (asker_of x.head now) x.head.node x.operation) (a, known) × (spelled q.head.unique told ≡ spelled x.head.unique a))
        (only r is_one) (told, came, refl);
    other = λ none. absurd (none q is);
  }

  -- what is no request was refused
  pub answered_none : (s : S) (k : Known) (now : Time) (message reply : List ℕ) → ((r : RequestValue) → IsRequest message r → ⊥) → reply ≡ refused_text message
      → IsAnswered G d s s k k now message reply
  answered_none s k now message reply none is = record {
    request = λ r is_one. absurd (none r is_one);
    other = λ _. (refl, refl, is);
  }

-- the number of a message is that of its head
pub refusal_by : (e : Errno) (message rest : List ℕ) (h : Head) (extra : ℕ) → head.at message ≡ Some (fields_of h extra, rest) → refusal_of e message ≡ error_text h.unique (linux_number e)
refusal_by e message rest h extra is = ap (λ found. elim found [
  | Some found ↦ error_text (found.0).1.1.0 (linux_number e)
  | None ↦ []
]) is

pub refusal_none : (e : Errno) (message : List ℕ) → head.at message ≡ None → refusal_of e message ≡ []
refusal_none e message is = ap (λ found. elim found [
  | Some found ↦ error_text (found.0).1.1.0 (linux_number e)
  | None ↦ []
]) is

pub lost_so : (message text : List ℕ) (unique : ℕ) → refusal_of errno.EIO message ≡ error_text unique (linux_number errno.EIO) → lost_text message text ≡ lost_by unique text
lost_so message [] unique is = refl
lost_so message (b ∷ bs) unique is = is

pub asks_so : (message : List ℕ) (q : RequestValue) (is_asked : Bool) → ((r : RequestValue) → IsRequest message r → q ≡ r) → is_asked ≡ settles q.operation → (r : RequestValue) → IsRequest message r → is_asked ≡ settles r.operation
asks_so message q is_asked only is r is_one = is ∙ ap (λ (x : RequestValue). settles x.operation) (only r is_one)

-- a room that is written over is as long as before
pub room_kept : (n : ℕ) (xs ys : List ℕ) → n ≡ length ys → length xs ≡ length ys → length (take n (xs ++ drop (length xs) ys)) ≡ length ys
room_kept n xs ys is same = simp (length-take, length-append, length-drop) (omega (arith, is, same))

not_none : (b : ℕ) (bs : List ℕ) → (length (b ∷ bs) == 0) ≡ true → ⊥
not_none b bs none = absurd (grind (arith, nat_tests))

none_there : (length {A = ℕ} [] == 0) ≡ false → ⊥
none_there some = absurd (grind (arith, nat_tests))

module _ {C : Type 0} (H : Channel C) where
  -- an empty reply is none
  pub sent_none : (s : C) (reply : List ℕ) → (length reply == 0) ≡ true
      → (part : List ℕ) × IsSent H s s reply part (Ok tt) × Appends (H.gone s) (H.gone s) part
  sent_none s [] none = ([], (refl, refl, refl), Appends-nil (H.gone s))
  sent_none s (b ∷ bs) none = absurd (not_none b bs none)

  -- and none is told of it where it is lost
  pub lost_none : (s : C) (unique : ℕ) (text : List ℕ) → (length text == 0) ≡ true
      → (part : List ℕ) × IsSent H s s (lost_by unique text) part (Ok tt) × Appends (H.gone s) (H.gone s) part
  lost_none s unique [] none = ([], (refl, refl, refl), Appends-nil (H.gone s))
  lost_none s unique (b ∷ bs) none = absurd (not_none b bs none)

  pub lost_some : (old new : C) (unique : ℕ) (text reply : List ℕ) (result : Result (Unit {0}) Ended) → (length text == 0) ≡ false → reply ≡ error_text unique (linux_number errno.EIO)
      → (part : List ℕ) × IsSent H old new reply part result × Appends (H.gone old) (H.gone new) part
      → (part : List ℕ) × IsSent H old new (lost_by unique text) part result × Appends (H.gone old) (H.gone new) part
  lost_some old new unique [] reply result some is sent = absurd (none_there some)
  lost_some old new unique (b ∷ bs) reply result some is sent =
      subst (λ (l : List ℕ). (part : List ℕ) × IsSent H old new l part result × Appends (H.gone old) (H.gone new) part) is sent

  -- another was sent
  pub sent_so : (old new : C) (reply : List ℕ) (sent : Sent) → (length reply == 0) ≡ false → H.sends old new reply (Ok sent)
      → (part : List ℕ) × Went reply (Ok sent) part × Appends (H.gone old) (H.gone new) part
      → (part : List ℕ) × IsSent H old new reply part (Ok tt) × Appends (H.gone old) (H.gone new) part
  sent_so old new [] sent some sends went = absurd (none_there some)
  sent_so old new (b ∷ bs) sent some sends (part, went, gone) = (part, (sent, sends, went), gone)

  pub unsent_so : (old new : C) (reply : List ℕ) (ended : Ended) → (length reply == 0) ≡ false → H.sends old new reply (Err ended)
      → (part : List ℕ) × Went reply (Err ended) part × Appends (H.gone old) (H.gone new) part
      → (part : List ℕ) × IsSent H old new reply part (Err ended) × Appends (H.gone old) (H.gone new) part
  unsent_so old new [] ended some sends went = absurd (none_there some)
  unsent_so old new (b ∷ bs) ended some sends (part, went, gone) = (part, (sends, went), gone)

  -- the room was large enough
  pub hears_so : (old new : C) (room : ℕ) (found : Result (List ℕ) Ended) → room ≡ REQUEST_BYTES → H.receives old new room found → Hears H old new found
  hears_so old new room found is heard = subst (λ (n : ℕ). H.receives old new n found) is heard

-- parts of lists, one behind the other
flat_push : {X : Type 0} (f : X → List ℕ) (xs : List X) (x : X) → flat_map f (xs ++ x ∷ []) ≡ flat_map f xs ++ f x
flat_push f xs x = flat_map-append f xs (x ∷ []) ∙ ap (λ (l : List ℕ). flat_map f xs ++ l) (append-nil (f x))

flat_more : {X : Type 0} (f : X → List ℕ) (before : List ℕ) (xs : List X) (x : X) → (before ++ flat_map f xs) ++ f x ≡ before ++ flat_map f (xs ++ x ∷ [])
flat_more f before xs x = append_assoc before (flat_map f xs) (f x) ∙ ap (λ (l : List ℕ). before ++ l) (sym (flat_push f xs x))

-- What is owed is what is told.
pub owes_none : AreOwed [] []
unfolding AreOwed
owes_none done = refl

told_same : (done : Result (Unit {0}) Errno) (e : Exchange) (part : List ℕ) → told_behind done e ≡ told_behind done (record e { asked = part })
told_same (Ok done) e part = refl
told_same (Err why) e part = refl

pub owes_asked : (kept : List Owed) (before : List Exchange) (e : Exchange) (part : List ℕ) → AreOwed kept (before ++ e ∷ []) → AreOwed kept (before ++ (record e { asked = part }) ∷ [])
unfolding AreOwed
owes_asked kept before e part owes = λ done.
    owes done ∙ (map-append (told_behind done) before (e ∷ [])
    ∙ ((λ i. map (told_behind done) before ++ told_same done e part i ∷ []) ∙ sym (map-append (told_behind done) before ((record e { asked = part }) ∷ []))))

owed_same : (done : Result (Unit {0}) Errno) (unique : ℕ) (e : Exchange) → lost_text e.message e.reply ≡ lost_by unique e.reply → owed_behind done (owed unique e.reply) ≡ told_behind done e
owed_same (Ok done) unique e is = refl
owed_same (Err why) unique e is = sym is

pub owes_more : (kept : List Owed) (before : List Exchange) (unique : ℕ) (e : Exchange) → lost_text e.message e.reply ≡ lost_by unique e.reply
    → AreOwed kept before → AreOwed (kept ++ owed unique e.reply ∷ []) (before ++ e ∷ [])
unfolding AreOwed
owes_more kept before unique e is owes = λ done.
    map-append (owed_behind done) kept (owed unique e.reply ∷ [])
    ∙ ((λ i. owes done i ++ owed_same done unique e is i ∷ []) ∙ sym (map-append (told_behind done) before (e ∷ [])))

module _ {S C : Type 0} (G : Ghosts S) (H : Channel C) (d : Durability) where
  heard_push : (old mid new : Stage S C) (es : List Exchange) (e : Exchange) → AreHeard G H d old mid es → IsHeard G H d mid new e → AreHeard G H d old new (es ++ e ∷ [])
  heard_push old mid new [] e same one = (new, subst (λ (s : Stage S C). IsHeard G H d s new e) same one, refl)
  heard_push old mid new (x ∷ xs) e (next, first, rest) one = (next, first, heard_push next mid new xs e rest one)

  batches_push : (old mid new : Stage S C) (bs : List Batch) (b : Batch) → AreBatches G H d old mid bs → IsBatch G H d mid new b.exchanges [] b.went (Ok tt) → AreBatches G H d old new (bs ++ b ∷ [])
  batches_push old mid new [] b same one = (new, subst (λ (s : Stage S C). IsBatch G H d s new b.exchanges [] b.went (Ok tt)) same one, refl)
  batches_push old mid new (x ∷ xs) b (next, first, rest) one = (next, first, batches_push next mid new xs b rest one)

  pub come_none : (s : Stage S C) → HasCome G H d s s []
  come_none s = record {
    batches = [];
    between = s;
    each = refl;
    heard = refl;
    coming = Consumes-nil (H.coming s.channel);
    gone = Appends-nil (H.gone s.channel);
  }

  keeps_none : (e : Durability) → KeepsNone e []
  keeps_none Together = tt
  keeps_none (Deferred milliseconds bytes) = refl

  -- none is kept
  pub under_way : (begun now : Stage S C) (kept : List Owed) → kept ≡ [] → HasCome G H d begun now [] → IsUnderWay G H d begun now kept
  under_way begun now kept none come = record {
    exchanges = [];
    come = come;
    owes = subst (λ (l : List Owed). AreOwed l []) (sym none) owes_none;
    free = keeps_none d;
  }

  module _ (begun now : Stage S C) (before : List Exchange) (e : Exchange) (has : HasAnswered G H d begun now before e) where
    -- a message was answered, and maybe the kernel was asked behind it
    pub come_more : (next : C) (part : List ℕ) → MayAsk H now.channel next part → Appends (H.gone now.channel) (H.gone next) part → H.coming next ≡ H.coming now.channel
        → HasCome G H d begun (record now { channel = next }) (before ++ (record e { asked = part }) ∷ [])
    come_more next part asks went same =
        let c = has.come in
        let last : Exchange = record e { asked = part } in record {
          batches = c.batches;
          between = c.between;
          each = c.each;
          heard = heard_push c.between has.old (record now { channel = next }) before last c.heard (record {
            heard = now.channel;
            came = has.hears;
            answered = has.answered;
            asks = asks;
            since = has.since;
          });
          coming = subst (λ (l : List ℕ). Consumes (H.coming begun.channel) (H.coming next) l) (flat_more (λ (x : Exchange). x.message) (came_of c.batches) before last)
              (subst (λ (l : Option (List ℕ)). Consumes (H.coming begun.channel) l ((came_of c.batches ++ messages_of before) ++ e.message)) (sym same)
              (Consumes-trans (H.coming begun.channel) (H.coming has.old.channel) (H.coming now.channel) (came_of c.batches ++ messages_of before) e.message c.coming has.coming));
          gone = subst (λ (l : List ℕ). Appends (H.gone begun.channel) (H.gone next) l) (flat_more (λ (x : Exchange). x.asked) (gone_of c.batches) before last)
              (Appends-trans (H.gone begun.channel) (H.gone now.channel) (H.gone next) (gone_of c.batches ++ questions_of before) part
              (subst (λ (l : Option (List ℕ)). Appends (H.gone begun.channel) l (gone_of c.batches ++ questions_of before)) (sym has.gone) c.gone) went);
        }

    -- the kernel wasn't asked
    pub come_unasked : HasCome G H d begun now (before ++ (record e { asked = [] }) ∷ [])
    come_unasked = come_more now.channel [] (inl (refl, refl)) (Appends-nil (H.gone now.channel)) refl

  -- Messages that came are settled, and replies to them sent.
  module _ (begun mid new : Stage S C) (es : List Exchange) (come : HasCome G H d begun mid es) (done : Result (Unit {0}) Errno) (settled : Settles G d mid new es done) (known : new.known ≡ mid.known)
      (coming : H.coming new.channel ≡ H.coming mid.channel) where
    batch : (kept unkept : List Exchange) → es ≡ kept ++ unkept → (went : List ℕ) (result : Result (Unit {0}) Ended) → AreSent H mid.channel new.channel (map (told_behind done) kept) went result
        → IsBatch G H d come.between new kept unkept went result
    batch kept unkept are went result sent = record {
      heard = mid;
      each = subst (AreHeard G H d come.between mid) are come.heard;
      done = done;
      settled = subst (λ (l : List Exchange). Settles G d mid new l done) are settled;
      known = known;
      sent = sent;
    }

    came_all : Consumes (H.coming begun.channel) (H.coming new.channel) (came_of come.batches ++ messages_of es)
    came_all = subst (λ (l : Option (List ℕ)). Consumes (H.coming begun.channel) l (came_of come.batches ++ messages_of es)) (sym coming) come.coming

    all_passed : (went : List ℕ) → Appends (H.gone mid.channel) (H.gone new.channel) went → Passed H begun.channel new.channel (come.batches ++ (record { exchanges = es; went = went }) ∷ [])
    all_passed went gone =
        let b : Batch = record { exchanges = es; went = went } in (
          subst (λ (l : List ℕ). Consumes (H.coming begun.channel) (H.coming new.channel) l) (sym (flat_push (λ (x : Batch). messages_of x.exchanges) come.batches b)) came_all,
          subst (λ (l : List ℕ). Appends (H.gone begun.channel) (H.gone new.channel) l)
              (append_assoc (gone_of come.batches) (questions_of es) went ∙ sym (flat_push (λ (x : Batch). questions_of x.exchanges ++ x.went) come.batches b))
              (Appends-trans (H.gone begun.channel) (H.gone mid.channel) (H.gone new.channel) (gone_of come.batches ++ questions_of es) went come.gone gone),
        )

    -- the batch is done
    pub batch_done : (went : List ℕ) × AreSent H mid.channel new.channel (map (told_behind done) es) went (Ok tt) × Appends (H.gone mid.channel) (H.gone new.channel) went → HasCome G H d begun new []
    batch_done (went, sent, gone) =
        let b : Batch = record { exchanges = es; went = went } in
        let passed = all_passed went gone in record {
          batches = come.batches ++ b ∷ [];
          between = new;
          each = batches_push begun come.between new come.batches b come.each (batch es [] (sym (append-nil es)) went (Ok tt) sent);
          heard = refl;
          coming = subst (λ (l : List ℕ). Consumes (H.coming begun.channel) (H.coming new.channel) l) (sym (append-nil (came_of (come.batches ++ b ∷ [])))) passed.0;
          gone = subst (λ (l : List ℕ). Appends (H.gone begun.channel) (H.gone new.channel) l) (sym (append-nil (gone_of (come.batches ++ b ∷ [])))) passed.1;
        }

    -- the channel ended meanwhile
    pub batch_ended : (ended : Ended) → (went : List ℕ) × AreSent H mid.channel new.channel (map (told_behind done) es) went (Err ended) × Appends (H.gone mid.channel) (H.gone new.channel) went
        → HasStopped G H d begun new (ending_of ended)
    batch_ended ended (went, sent, gone) =
        let b : Batch = record { exchanges = es; went = went } in record {
          batches = come.batches;
          between = come.between;
          last = b;
          each = come.each;
          stops = by ended b (inr (batch es [] (sym (append-nil es)) went (Err ended) sent));
          passed = all_passed went gone;
        }
      where
        by : (why : Ended) (b : Batch) → IsEndedBy G H d come.between new b why → Stops G H d come.between new b (ending_of why)
        by Unmounted b is = is
        by Failed b is = is

    -- the reply to the last one has no memory
    pub batch_lacks : (kept : List Exchange) (e : Exchange) (result : Result (Unit {0}) Ended) → es ≡ kept ++ e ∷ []
        → (went : List ℕ) × AreSent H mid.channel new.channel (map (told_behind done) kept) went result × Appends (H.gone mid.channel) (H.gone new.channel) went → HasStopped G H d begun new NoMemory
    batch_lacks kept e result are (went, sent, gone) = record {
      batches = come.batches;
      between = come.between;
      last = record { exchanges = es; went = went };
      each = come.each;
      stops = inr (kept, e, result, are, batch kept (e ∷ []) are went result sent);
      passed = all_passed went gone;
    }

  -- what passed, with a batch of which nothing went
  passed_unsent : (begun now : C) (bs : List Batch) (es : List Exchange) → Consumes (H.coming begun) (H.coming now) (came_of bs ++ messages_of es) → Appends (H.gone begun) (H.gone now) (gone_of bs ++ questions_of es)
      → Passed H begun now (bs ++ (record { exchanges = es; went = [] }) ∷ [])
  passed_unsent begun now bs es coming gone =
      let b : Batch = record { exchanges = es; went = [] } in (
        subst (λ (l : List ℕ). Consumes (H.coming begun) (H.coming now) l) (sym (flat_push (λ (x : Batch). messages_of x.exchanges) bs b)) coming,
        subst (λ (l : List ℕ). Appends (H.gone begun) (H.gone now) l)
            (ap (λ (l : List ℕ). gone_of bs ++ l) (sym (append-nil (questions_of es))) ∙ sym (flat_push (λ (x : Batch). questions_of x.exchanges ++ x.went) bs b)) gone,
      )

  -- there is no memory for a message more
  pub stops_full : (begun now : Stage S C) → HasCome G H d begun now [] → HasStopped G H d begun now NoMemory
  stops_full begun now come = record {
    batches = come.batches;
    between = come.between;
    last = record { exchanges = []; went = [] };
    each = come.each;
    stops = inl (come.heard, refl);
    passed = passed_unsent begun.channel now.channel come.batches [] come.coming come.gone;
  }

  -- no message came
  pub stops_silent : (begun now : Stage S C) (kept : List Owed) (next : C) (ended : Ended) → IsUnderWay G H d begun now kept → Hears H now.channel next (Err ended) → Keeps (H.coming now.channel) (H.coming next) → H.gone next ≡ H.gone now.channel
      → HasStopped G H d begun (record now { channel = next }) (ending_of ended)
  stops_silent begun now kept next ended way silent keeps same =
      let c = way.come in
      let b : Batch = record { exchanges = way.exchanges; went = [] } in
      record {
        batches = c.batches;
        between = c.between;
        last = b;
        each = c.each;
        stops = by ended (inl (record { heard = now.channel; each = c.heard; ends = silent; none = refl }));
        passed = passed_unsent begun.channel next c.batches way.exchanges
            (Consumes-kept (H.coming begun.channel) (H.coming now.channel) (H.coming next) (came_of c.batches ++ messages_of way.exchanges) c.coming keeps)
            (subst (λ (l : Option (List ℕ)). Appends (H.gone begun.channel) l (gone_of c.batches ++ questions_of way.exchanges)) (sym same) c.gone);
      }
    where
      by : (why : Ended) → IsEndedBy G H d way.come.between (record now { channel = next }) (record { exchanges = way.exchanges; went = [] }) why
          → Stops G H d way.come.between (record now { channel = next }) (record { exchanges = way.exchanges; went = [] }) (ending_of why)
      by Unmounted is = is
      by Failed is = is

  -- in the end all is made durable
  pub ended_so : (begun stopped : Stage S C) (files : S) (why : Ending) (done : Result (Unit {0}) Errno) (ending : Ending) → HasStopped G H d begun stopped why → G.commits stopped.files files done → ending ≡ ending_behind why done
      → HasEnded G H d begun (stage files stopped.known stopped.channel None) ending
  ended_so begun stopped files why done ending served commits tells = record {
    stopped = stopped;
    why = why;
    done = done;
    served = served;
    committed = record { commits = commits; since = refl };
    known = refl;
    channel = refl;
    tells = tells;
  }

  module _ (numbers : ℕ) (owner : Owner) (now : Time) (files : S) (channel : C) where
    abbrev first : Known
    first = known_at_mount numbers owner now

    -- there was no memory for what a server keeps
    pub serves_none : Serves G H d numbers owner (files, channel) (files, channel) NoMemory
    serves_none = record {
      now = now;
      found = Err ENOMEM;
      files = files;
      learnt = first;
      known = first;
      came = came_lost G files files {R = Learnt} (gives (Err ENOMEM, first)) (learns first) (Err ENOMEM, first) (came_gives G files {R = Learnt} (Err ENOMEM, first));
      ends = (refl, refl);
    }

    module _ (memory : Known) (begun : memory ≡ first) (next : S) (learnt : Known) where
      learnt_so : (found : Result (Unit {0}) Errno) → Came G files next (learns memory) (found, learnt) → Came G files next (if_memory {R = Learnt} (gives (Err ENOMEM, first)) (learns first)) (found, learnt)
      learnt_so found came =
          came_kept G files next {R = Learnt} (gives (Err ENOMEM, first)) (learns first) (found, learnt) (subst (λ (x : Known). Came G files next (learns x) (found, learnt)) begun came)

      -- the snapshots were learnt, and messages answered then
      pub serves_on : (new : S) (known : Known) (channel' : C) (ending : Ending) → Came G files next (learns memory) (Ok tt, learnt)
          → HasEnded G H d (stage next learnt channel None) (stage new known channel' None) ending → Serves G H d numbers owner (files, channel) (new, channel') ending
      serves_on new known channel' ending came then = record {
        now = now;
        found = Ok tt;
        files = next;
        learnt = learnt;
        known = known;
        came = learnt_so (Ok tt) came;
        ends = then;
      }

      -- they weren't
      pub serves_unlearnt : (e : Errno) (ending : Ending) → Came G files next (learns memory) (Err e, learnt) → ending ≡ unlearnt e → Serves G H d numbers owner (files, channel) (next, channel) ending
      serves_unlearnt e ending came why = record {
        now = now;
        found = Err e;
        files = next;
        learnt = learnt;
        known = learnt;
        came = learnt_so (Err e) came;
        ends = (refl, why);
      }
