-- What is made again of a folder in memory after a crash.
use Rattle.std.specs.Prelude.{ℕ, ◌≡◌, Bool, true, false, List, [], ◌∷◌, None, if◌then◌else◌}
use Rattle.std.specs.Str.{bytes_eq}
use Rattle.dconf_model.specs.Folders.{Event, is_synced, read_content, MayLeave}
use Rattle.dconf_model.specs.Folders.Event.{create, rename, link, exchange}

-- a file was made under the name, or got it
abbrev pub was_named : List Event → List ℕ → Bool
was_named [] name = false
was_named (create made ∷ es) name = if bytes_eq name made then true else was_named es name
was_named (rename from to ∷ es) name = if bytes_eq name to then true else was_named es name
was_named (link from to ∷ es) name = if bytes_eq name to then true else was_named es name
was_named (exchange one two ∷ es) name = if bytes_eq name two then true else if bytes_eq name one then true else was_named es name
was_named (_ ∷ es) name = was_named es name

-- Of a folder with these events all, what a crash leaves under the names of the given ones was made again, and nothing else.
pub record AreMadeAgain (given all now : List Event) : Type 0 where
  pub synced : (file : ℕ) → is_synced now file ≡ true
  pub named : (name : List ℕ) → was_named given name ≡ true → MayLeave all name (read_content now name)
  pub others : (name : List ℕ) → was_named given name ≡ false → read_content now name ≡ None
