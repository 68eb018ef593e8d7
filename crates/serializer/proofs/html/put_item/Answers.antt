-- `put_item` meets its contract.
use mathlib.Core.Path.{sym}
use Prim.Native.Nat.{◌*◌}
use native.Mathlib.Omega.{arith}
use Rattle.common.specs.Bytes.{codes}
use Rattle.writer.proofs.DoesLaws.{grows_push_all, ready_by, ready_first, ready_then, does_by, does_then}
use Rattle.serializer.proofs.HtmlLaws.{item_out_end, item_out_begin, copies_small}
use Rattle.serializer.proofs.MarginLaws.{strip_if_does}
use Rattle.serializer.proofs.html.put_item.Goals as goal

pub put-requires : goal.put-requires
unfolding codes
put-requires c = ready_then (strip_if_does _ _ _ c.args.bare c.strip_if-q.ensures) (ready_by c.requires (λ under o h. item_out_end _ _ _ c.if-end.true o))

pub returns-then-end : goal.returns-then-end
unfolding codes
returns-then-end c = does_by (does_then (strip_if_does _ _ _ c.args.bare c.strip_if-q.ensures) c.put.ensures) (λ under o h. sym (item_out_end _ _ _ c.if-end.true o))

pub overflow_mul-depth : goal.overflow_mul-depth
overflow_mul-depth c = omega (arith, copies_small (c.args.depth * 2) (ready_first (grows_push_all (codes "<li>")) (ready_by c.requires (λ under o h. item_out_begin _ _ _ c.if-end.false o))))

pub pad-q-requires : goal.pad-q-requires
pad-q-requires c = ready_first (grows_push_all (codes "<li>")) (ready_by c.requires (λ under o h. item_out_begin _ _ _ c.if-end.false o))

pub put-requires-2 : goal.put-requires-2
unfolding codes
put-requires-2 c = ready_then c.pad-q.ensures (ready_by c.requires (λ under o h. item_out_begin _ _ _ c.if-end.false o))

pub returns : goal.returns
unfolding codes
returns c = does_by (does_then c.pad-q.ensures c.put-2.ensures) (λ under o h. sym (item_out_begin _ _ _ c.if-end.false o))
