use mathlib.Core.Path.{◌≡◌}
use native.Mathlib.Omega.{arith}
use Rattle.std.specs.String.{string_bytes}
use Rattle.std.proofs.lemmas.Fmt.{length-decimal-le}
use Rattle.files.proofs.Laws.{short-is}
use Rattle.files.proofs.paths.new_name.Goals as goal

pub returns : goal.returns
returns c =
    let start : c.into_bytes-name.result.items ≡ string_bytes c.in_ok-format.field-0 = cc (c.into_bytes-name.ensures.value) in
    short-is _ _ _ _ _ (length-decimal-le 20 c.args.process (omega arith) (omega arith) (omega arith)) (cc (start, c.in_ok-format.ensures.ok)) c.in_ok-push.ensures.items c.in_ok-extend_from_slice.ensures.items
