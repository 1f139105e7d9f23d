-- One meaning has one form.
use Rattle.std.specs.Prelude.{◌≡◌, List, [], ℕ, ◌≤◌, length}
use Rattle.schema.specs.Schema.{Group}
use Rattle.settings.specs.declared.Ignored.{Ignored}
use Rattle.settings.specs.Store.{strict}
use Rattle.message.specs.Walk.{done, message_r}
use Rattle.meaning.specs.Packed.{Packed}
use Rattle.sheet.specs.Written.{wrote, sheet_w}
use Rattle.sheet.specs.Rewritten.{Rooms, Enough, rewritten}

-- The message b is accepted, and s is its sheet: "with scratch at least as long as the message".
abbrev pub Means : Ignored → List Group → List ℕ → List ℕ → Type 0
Means x gs b s = (scratch : ℕ) → length b ≤ scratch → message_r x gs scratch b ≡ done s []

-- The form of a message whose sheet is s, where the faults x are ignored. What is written keeps every rule, so it is accepted with nothing ignored as well.
pub record Canonical (x : Ignored) (gs : List Group) (b s : List ℕ) : Type 0 where
  pub form : List ℕ
  pub made : sheet_w gs s ≡ wrote form [] []
  pub packed : Packed gs form
  pub rewrites : (rooms : Rooms) → Enough rooms b → rewritten x gs rooms b ≡ wrote form [] []
  pub means : Means strict gs form s
  pub again : (rooms : Rooms) → Enough rooms form → rewritten strict gs rooms form ≡ wrote form [] []
  pub means-here : Means x gs form s
  pub again-here : (rooms : Rooms) → Enough rooms form → rewritten x gs rooms form ≡ wrote form [] []
  pub least : (c : List ℕ) → Means x gs c s → length form ≤ length c
