use Rattle.message.proofs.CheckValues.{extension-none, extension-low, extension-at}
use Rattle.message.proofs.extension_inside.Goals as goal

pub returns-then-offset-eq0 : goal.returns-then-offset-eq0
returns-then-offset-eq0 c = λ y base. extension-none y c.args.bytes.now base c.args.area _ c.read_u32-offset.ensures.0 c.if-offset-eq0.true

pub returns-then-offset-area : goal.returns-then-offset-area
returns-then-offset-area c = λ y base. extension-low y c.args.bytes.now base c.args.area _ c.read_u32-offset.ensures.0 c.if-offset-eq0.false c.if-offset-area.true

pub returns : goal.returns
returns c = λ y base. extension-at y c.args.bytes.now base c.args.area _ c.read_u32-offset.ensures.0 c.if-offset-eq0.false c.if-offset-area.false
