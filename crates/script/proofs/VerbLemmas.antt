-- The names of verbs.
use Rattle.std.proofs.Common.{◌≡◌, ℕ, List, [], ◌∷◌, All, Option, Some, None, IfNone, cond, lit<, refl, sym, ◌∙◌, ap}
use Rattle.std.specs.Str.{bytes_eq}
use Rattle.script.specs.Verbs.{verb_name}
use Rattle.script.specs.declared.verb.Verb.{Verb}
use Rattle.script.specs.declared.verb.Verb.TheVariants as verb

abbrev pub all_verbs : List Verb
all_verbs = verb.List ∷ verb.Entries ∷ verb.Stat ∷ verb.Lstat ∷ verb.Attr ∷ verb.Lattr ∷ verb.Readlink ∷ verb.Get ∷ verb.Mkdir ∷ verb.Rmdir ∷ verb.Unlink ∷ verb.Link ∷ verb.Symlink ∷ verb.Rename ∷ verb.RenameNew ∷ verb.Chmod ∷ verb.Chown ∷ verb.Lchown ∷ verb.Utimens ∷ verb.Lutimens ∷ verb.Truncate ∷ verb.Store ∷ verb.Set ∷ verb.Open ∷ verb.OpenStat ∷ verb.Close ∷ verb.Read ∷ verb.Write ∷ verb.Pread ∷ verb.Pwrite ∷ verb.Lseek ∷ verb.Ftruncate ∷ verb.Fchmod ∷ verb.Fchown ∷ verb.Futimens ∷ verb.Fstat ∷ verb.Fattr ∷ verb.Fsync ∷ verb.Extent ∷ verb.At ∷ verb.As ∷ verb.Sync ∷ verb.Df ∷ verb.Statfs ∷ verb.Snap ∷ verb.Take ∷ verb.Delete ∷ verb.Restore ∷ verb.In ∷ []

-- a word that names none of all verbs names no verb
pub none_named : (word : List ℕ) → All (λ v. word ≡ verb_name v → ⊥) all_verbs → (v : Verb) → word ≡ verb_name v → ⊥
none_named word none verb.List = none 0 verb.List (lit< tt)
none_named word none verb.Entries = none 1 verb.Entries (lit< tt)
none_named word none verb.Stat = none 2 verb.Stat (lit< tt)
none_named word none verb.Lstat = none 3 verb.Lstat (lit< tt)
none_named word none verb.Attr = none 4 verb.Attr (lit< tt)
none_named word none verb.Lattr = none 5 verb.Lattr (lit< tt)
none_named word none verb.Readlink = none 6 verb.Readlink (lit< tt)
none_named word none verb.Get = none 7 verb.Get (lit< tt)
none_named word none verb.Mkdir = none 8 verb.Mkdir (lit< tt)
none_named word none verb.Rmdir = none 9 verb.Rmdir (lit< tt)
none_named word none verb.Unlink = none 10 verb.Unlink (lit< tt)
none_named word none verb.Link = none 11 verb.Link (lit< tt)
none_named word none verb.Symlink = none 12 verb.Symlink (lit< tt)
none_named word none verb.Rename = none 13 verb.Rename (lit< tt)
none_named word none verb.RenameNew = none 14 verb.RenameNew (lit< tt)
none_named word none verb.Chmod = none 15 verb.Chmod (lit< tt)
none_named word none verb.Chown = none 16 verb.Chown (lit< tt)
none_named word none verb.Lchown = none 17 verb.Lchown (lit< tt)
none_named word none verb.Utimens = none 18 verb.Utimens (lit< tt)
none_named word none verb.Lutimens = none 19 verb.Lutimens (lit< tt)
none_named word none verb.Truncate = none 20 verb.Truncate (lit< tt)
none_named word none verb.Store = none 21 verb.Store (lit< tt)
none_named word none verb.Set = none 22 verb.Set (lit< tt)
none_named word none verb.Open = none 23 verb.Open (lit< tt)
none_named word none verb.OpenStat = none 24 verb.OpenStat (lit< tt)
none_named word none verb.Close = none 25 verb.Close (lit< tt)
none_named word none verb.Read = none 26 verb.Read (lit< tt)
none_named word none verb.Write = none 27 verb.Write (lit< tt)
none_named word none verb.Pread = none 28 verb.Pread (lit< tt)
none_named word none verb.Pwrite = none 29 verb.Pwrite (lit< tt)
none_named word none verb.Lseek = none 30 verb.Lseek (lit< tt)
none_named word none verb.Ftruncate = none 31 verb.Ftruncate (lit< tt)
none_named word none verb.Fchmod = none 32 verb.Fchmod (lit< tt)
none_named word none verb.Fchown = none 33 verb.Fchown (lit< tt)
none_named word none verb.Futimens = none 34 verb.Futimens (lit< tt)
none_named word none verb.Fstat = none 35 verb.Fstat (lit< tt)
none_named word none verb.Fattr = none 36 verb.Fattr (lit< tt)
none_named word none verb.Fsync = none 37 verb.Fsync (lit< tt)
none_named word none verb.Extent = none 38 verb.Extent (lit< tt)
none_named word none verb.At = none 39 verb.At (lit< tt)
none_named word none verb.As = none 40 verb.As (lit< tt)
none_named word none verb.Sync = none 41 verb.Sync (lit< tt)
none_named word none verb.Df = none 42 verb.Df (lit< tt)
none_named word none verb.Statfs = none 43 verb.Statfs (lit< tt)
none_named word none verb.Snap = none 44 verb.Snap (lit< tt)
none_named word none verb.Take = none 45 verb.Take (lit< tt)
none_named word none verb.Delete = none 46 verb.Delete (lit< tt)
none_named word none verb.Restore = none 47 verb.Restore (lit< tt)
none_named word none verb.In = none 48 verb.In (lit< tt)

pub no_verb : (r : Option Verb) (word : List ℕ) → IfNone r (All (λ v. word ≡ verb_name v → ⊥) all_verbs) → IfNone r ((v : Verb) → word ≡ verb_name v → ⊥)
no_verb None word none = none_named word none
no_verb (Some v) word none = tt

abbrev first_named : List Verb → List ℕ → Option Verb
first_named [] word = None
first_named (v ∷ vs) word = cond (bytes_eq (verb_name v) word) (Some v) (first_named vs word)

named : (v : Verb) → first_named all_verbs (verb_name v) ≡ Some v
named verb.List = refl
named verb.Entries = refl
named verb.Stat = refl
named verb.Lstat = refl
named verb.Attr = refl
named verb.Lattr = refl
named verb.Readlink = refl
named verb.Get = refl
named verb.Mkdir = refl
named verb.Rmdir = refl
named verb.Unlink = refl
named verb.Link = refl
named verb.Symlink = refl
named verb.Rename = refl
named verb.RenameNew = refl
named verb.Chmod = refl
named verb.Chown = refl
named verb.Lchown = refl
named verb.Utimens = refl
named verb.Lutimens = refl
named verb.Truncate = refl
named verb.Store = refl
named verb.Set = refl
named verb.Open = refl
named verb.OpenStat = refl
named verb.Close = refl
named verb.Read = refl
named verb.Write = refl
named verb.Pread = refl
named verb.Pwrite = refl
named verb.Lseek = refl
named verb.Ftruncate = refl
named verb.Fchmod = refl
named verb.Fchown = refl
named verb.Futimens = refl
named verb.Fstat = refl
named verb.Fattr = refl
named verb.Fsync = refl
named verb.Extent = refl
named verb.At = refl
named verb.As = refl
named verb.Sync = refl
named verb.Df = refl
named verb.Statfs = refl
named verb.Snap = refl
named verb.Take = refl
named verb.Delete = refl
named verb.Restore = refl
named verb.In = refl

-- a word names one verb at most
pub verb_name-unique : (v w : Verb) → verb_name v ≡ verb_name w → v ≡ w
verb_name-unique v w e = let same : Some v ≡ Some w = sym (named v) ∙ ap (first_named all_verbs) e ∙ named w in cc
