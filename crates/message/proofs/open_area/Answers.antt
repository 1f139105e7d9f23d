use Rattle.std.proofs.Common.{ℕ, ◌+◌, ◌-◌, sym, refl, ap, ◌∙◌, arith}
use Rattle.schema.specs.Table.{schema}
use Rattle.schema.proofs.Groups.{layout-width}
use Rattle.message.specs.Check.{levels_in, ignored_in, inner_of}
use Rattle.message.specs.Scopes.{Opens}
use Rattle.message.proofs.Rules.{levels-within, levels-less, ignored-less}
use Rattle.message.proofs.CheckGroups.{nothing-taken, body-narrow, body-loose, body-begins}
use Rattle.message.proofs.open_area.Goals as goal

pub returns-then-bytes-area : goal.returns-then-bytes-area
unfolding Opens
returns-then-bytes-area c = λ t m o x L g e i. let a = c.args in let w = c.group_width-area.ensures.0 ∙ layout-width t a.index.now L a.group in
    body-narrow _ (schema t) (inner_of (ignored_in a.outer.rules) t (levels_in a.outer.rules - 1)) a.group a.outer.base a.bytes.now _ (ap (λ (n : ℕ). 16 + n) w) c.if-bytes-area.true

pub returns-then-not-extension_inside : goal.returns-then-not-extension_inside
unfolding Opens
returns-then-not-extension_inside c = λ t m o x L g e i. let a = c.args in let w = c.group_width-area.ensures.0 ∙ layout-width t a.index.now L a.group in
    body-loose _ (schema t) (inner_of (ignored_in a.outer.rules) t (levels_in a.outer.rules - 1)) a.group a.outer.base a.bytes.now _ (ap (λ (n : ℕ). 16 + n) w) c.if-bytes-area.false c.requires.1 (sym (c.extension_inside.ensures (ignored_in a.outer.rules) a.outer.base) ∙ c.if-not-extension_inside.true)

pub overflow_sub-frame : goal.overflow_sub-frame
overflow_sub-frame c = omega (arith, c.requires.3, levels-within c.args.outer.rules)

pub returns : goal.returns
unfolding Opens
returns c = λ t m o x L g e i. let a = c.args in let w = c.group_width-area.ensures.0 ∙ layout-width t a.index.now L a.group in let p = c.requires.3 in record {
  ready = record { layout = L; same = e; small = c.requires.2; room = c.if-bytes-area.false };
  fits = (omega (arith, w, c.if-bytes-area.false), g, L.shallows a.group);
  inside = (omega (arith, i, p, levels-less a.outer.rules p), omega arith);
  counts = rw (levels-less a.outer.rules p, ignored-less a.outer.rules p) (body-begins _ (schema t) (inner_of (ignored_in a.outer.rules) t (levels_in a.outer.rules - 1)) a.group a.outer.base a.bytes.now _ (ap (λ (n : ℕ). 16 + n) w) c.if-bytes-area.false c.requires.1 (sym (c.extension_inside.ensures (ignored_in a.outer.rules) a.outer.base) ∙ c.if-not-extension_inside.false) _ _ refl _ (nothing-taken (16 + c.group_width-area.result) m a.bytes.now e (omega (arith, c.if-bytes-area.false, c.requires.2))));
}
