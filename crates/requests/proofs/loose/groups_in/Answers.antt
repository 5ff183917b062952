use Rattle.std.proofs.Common.{◌≡◌, get_or, vec_items, sym, ap, ◌∙◌, subst}
use Rattle.std.specs.Slice.Iter.{chunks_rest, chunks_size}
use Rattle.requests.specs.Lines.{trim}
use Rattle.requests.proofs.Alike.{Marked, trim_alike, trim_marked}
use Rattle.requests.proofs.Groups.{Left, left_first, left_chunk, left_last}
use Rattle.requests.proofs.loose.groups_in.Goals as goal

pub loop-group-init : goal.loop-group-init
loop-group-init c =
    let line = c.args.line.now in
    let it = c.into_iter-group-iterator.result in
    let from = c.into_iter-group-iterator.ensures.into_iter_gives in
    let e : chunks_rest it ≡ trim line = ap chunks_rest from ∙ c.chunks-group-items.ensures.rest ∙ c.trimmed.ensures in
    record {
      ten = ap chunks_size from ∙ c.chunks-group-items.ensures.size;
      left = subst (Left line (chunks_rest it)) (sym c.new-groups.ensures.items)
          (left_first line (chunks_rest it) (subst Marked (sym e) (trim_marked line)) (λ i. ap (λ t. get_or t i 32) e ∙ trim_alike line i));
    }

pub loop-group-preserved : goal.loop-group-preserved
loop-group-preserved c =
    let line = c.args.line.now in
    let s = c.in-Some.ensures.steps in
    record {
      ten = s.0 ∙ c.loop-group.invariant.ten;
      left = subst (Left line (chunks_rest c.next.new.self)) (sym c.in_ok-push.ensures.items)
          (left_chunk line (chunks_rest c.loop-group.group-iterator) c.in-Some.group.now (chunks_rest c.next.new.self) (vec_items c.loop-group.groups) c.group_in.result _
          c.loop-group.invariant.ten s.1.0 s.1.1 s.1.2 c.group_in.ensures c.loop-group.invariant.left);
    }

pub returns : goal.returns
returns c gs short a = left_last c.args.line.now (chunks_rest c.loop-group.group-iterator) (vec_items c.loop-group.groups) c.in-None.ensures.steps.1.0 c.loop-group.invariant.left gs short a
