use Rattle.std.proofs.Common.{refl, arith}
use Rattle.ledger.proofs.Laws.{enters-55-none, enters-55-long, enters-56, enters-it}
use Rattle.ledger.proofs.enter.Goals as goal

pub returns-then-barcode-lt1 : goal.returns-then-barcode-lt1
returns-then-barcode-lt1 c = enters-55-none _ _ _ _ _ _ c.if-barcode-lt1.true

pub returns-then-barcode-gt40 : goal.returns-then-barcode-gt40
returns-then-barcode-gt40 c = enters-55-long _ _ _ _ _ _ c.if-barcode-gt40.true

pub returns-then-ledger-fill : goal.returns-then-ledger-fill
returns-then-ledger-fill c = enters-56 _ _ _ _ _ _ (omega arith) (omega arith) (omega arith)

pub returns-then-ledger-fill-lt64 : goal.returns-then-ledger-fill-lt64
returns-then-ledger-fill-lt64 c = enters-56 _ _ _ _ _ _ (omega arith) (omega arith) (omega arith)

pub returns : goal.returns
returns c = enters-it _ _ _ _ _ _ (omega arith) (omega arith) _ (omega arith) c.write_line.ensures
