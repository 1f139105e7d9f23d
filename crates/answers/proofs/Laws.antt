-- A field that is asked for as bytes.
use Rattle.schema.specs.declared.Fault.{Fault}
use Rattle.schema.specs.Faults.{Verdict, also}
use Rattle.schema.specs.Table.{schema}
use Rattle.std.proofs.Common.{Ok, Err, Result, ℕ, List, ◌≡◌, refl, ap, ◌∙◌}
use Rattle.reading.specs.declared.Part.{Part}
use Rattle.reading.specs.Item.{item_of}
use Rattle.reading.specs.Part.{part_at, verdict_of}
use Rattle.opening.specs.Opening.{Under, message_verdict}
use Rattle.codec.specs.Answers.{part_answer, bytes_verdict}

-- what says where the bytes lie says whether they are there
pub of-part : (t b : List ℕ) (u : Under) (f i : ℕ) (p : Result Part Fault) → p ≡ part_answer t b u f i → verdict_of p ≡ bytes_verdict t b u f i
unfolding part_answer bytes_verdict also verdict_of
of-part t b u f i p e = ap verdict_of e ∙ by-verdict (message_verdict t b u) (part_at b (item_of (schema t) b f i))
  where
    by-verdict : (v : Verdict) (p : Result Part Fault) → verdict_of (also v p) ≡ also v (verdict_of p)
    by-verdict (Ok _) p = refl
    by-verdict (Err f) p = refl
