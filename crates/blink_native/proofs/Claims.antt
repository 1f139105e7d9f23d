-- The claims of specs/Claims.antt, shown.
use Rattle.settings.specs.declared.Ignored.{Ignored}
use Rattle.reading.specs.declared.Part.{Part}
use Rattle.schema.specs.declared.Fault.{Fault}
use Rattle.schema.specs.Faults.{Verdict, fault_at}
use Rattle.std.proofs.Common.{Ok, Err, Result}
use mathlib.Core.Path.{◌≡◌, refl, ap}
use mathlib.Core.List.{List, []}
use Prim.Native.Nat.{ℕ}
use native.Mathlib.Omega.{arith}
use Rattle.fields.specs.declared.FieldShape.{FieldShape}
use Rattle.reading.specs.declared.Number.{Number}
use Rattle.reading.specs.declared.Number.TheVariants.{Signed, Unsigned, Bool as Flag, Decimal, Float, NanBits}
use Rattle.sheet.specs.Written.{Writing, stopped, wrote}
use Rattle.opening.specs.Opening.{Under, under}
use Rattle.codec.specs.Answers.{written_of}
use Rattle.codec.specs.Demands.{Numbered}
use Rattle.codec.proofs.Demands.{demands}
use Rattle.ledger.proofs.Claims.{ledger-claims}
use Rattle.blink_native.specs.Boundary.{exported, exported_written, exported_number, exported_span, exported_settings, exported_shape}
use Rattle.blink_native.proofs.Steps.{step}
use Rattle.blink_native.specs.Claims.{VerdictTold, WrittenTold, SettingTold, NumberTold, SpanTold, ShapeTold, Claims}

verdict : (v : Verdict) → ((p : ℕ) → v ≡ Err (fault_at 0 p) → ⊥) → VerdictTold v
unfolding exported
verdict (Ok _) h = (λ e n p q. (cc), λ f. refl)
verdict (Err f) h = (λ e. absurd (h f.place (ap (λ (k : ℕ). Err (fault_at k f.place)) e)), λ g. absurd (g f.number f.place refl))

span : (x : Result Part Fault) → ((p : ℕ) → x ≡ Err (fault_at 0 p) → ⊥) → SpanTold x
unfolding exported_span
span (Ok x) h = (λ e n p q. (cc), λ f. refl)
span (Err f) h = (λ e. absurd (h f.place (ap (λ (k : ℕ). Err (fault_at k f.place)) e)), λ g. absurd (g f.number f.place refl))

setting : (x : Result Ignored Fault) → ((p : ℕ) → x ≡ Err (fault_at 0 p) → ⊥) → SettingTold x
unfolding exported_settings
setting (Ok i) h = (λ e n p q. (cc), λ f. refl)
setting (Err f) h = (λ e. absurd (h f.place (ap (λ (k : ℕ). Err (fault_at k f.place)) e)), λ g. absurd (g f.number f.place refl))

shape : (x : Result FieldShape Fault) → ((p : ℕ) → x ≡ Err (fault_at 0 p) → ⊥) → ShapeTold x
unfolding exported_shape
shape (Ok x) h = (λ e n p q. (cc), λ f. refl)
shape (Err f) h = (λ e. absurd (h f.place (ap (λ (k : ℕ). Err (fault_at k f.place)) e)), λ g. absurd (g f.number f.place refl))

written : (x : Result ℕ Fault) → ((p : ℕ) → x ≡ Err (fault_at 0 p) → ⊥) → WrittenTold x
unfolding exported_written
written (Ok k) h = (λ e n p q. (cc), λ f. refl)
written (Err f) h = (λ e. absurd (h f.place (ap (λ (k : ℕ). Err (fault_at k f.place)) e)), λ g. absurd (g f.number f.place refl))

written-of : (x : Writing) → ((p : ℕ) → x ≡ stopped 0 p → ⊥) → WrittenTold (written_of x)
unfolding exported_written written_of
written-of (stopped n p) h = (λ e. absurd (h p (ap (λ (k : ℕ). stopped k p) e)), λ f. absurd (f n p refl))
written-of (wrote X D r) h = (λ e n p q. (cc), λ f. refl)

number : (x : Result Number Fault) → ((p : ℕ) → x ≡ Err (fault_at 0 p) → ⊥) → NumberTold x
unfolding exported_number
number (Ok (Signed x)) h = (λ e n p q. (cc), λ f. refl)
number (Ok (Unsigned x)) h = (λ e n p q. (cc), λ f. refl)
number (Ok (Flag x)) h = (λ e n p q. (cc), λ f. refl)
number (Ok (Decimal y x)) h = (λ e n p q. (cc), λ f. refl)
number (Ok (Float x)) h = (λ e n p q. (cc), λ f. refl)
number (Ok (NanBits x)) h = (λ e n p q. (cc), λ f. refl)
number (Err f) h = (λ e. absurd (h f.place (ap (λ (k : ℕ). Err (fault_at k f.place)) e)), λ g. absurd (g f.number f.place refl))

numbered : (t b s : List ℕ) (u : Under) → Numbered t b s u
numbered t b s u = (demands.first t b s u).numbered

abbrev alone : List ℕ → Under
alone st = under st 0 0

pub claims : Claims
claims = record {
  table = λ t. verdict _ (numbered t [] [] (alone [])).table;
  shape = λ t id field. shape _ ((numbered t [] [] (alone [])).shape id field);
  store = λ st. verdict _ (numbered [] [] [] (alone st)).store;
  settings = λ st c v. setting _ ((numbered [] [] [] (alone st)).settings c v);
  addition = λ st c v absent pads unused. verdict _ ((numbered [] [] [] (alone st)).addition c v absent pads unused);
  message = λ t b u. verdict _ (numbered t b [] u).message;
  tape = λ t s u at. step t s u at (λ b. (numbered t b [] u).message);
  number = λ t b u field item. number _ ((numbered t b [] u).number field item);
  span = λ t b u field item. span _ ((numbered t b [] u).span field item);
  to-sheet = λ t b u room. written-of _ ((numbered t b [] u).to-sheet room);
  to-message = λ t s room. written-of _ ((numbered t [] s (alone [])).to-message room);
  rewrite = λ t b st c rooms. written-of _ ((numbered t b [] (under st c 0)).rewrite rooms);
  line = λ s c. written _ (ledger-claims.numbered c s);
}
