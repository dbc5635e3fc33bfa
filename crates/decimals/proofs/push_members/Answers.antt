-- `decimals::push_members` meets its contract. The members are put together at the front of an array, as UTF-8. Assumes nothing.
use Rattle.std.specs.Str.{IsUtf8}
use Rattle.std.proofs.Common.{sym, subst}
use Rattle.vertex_set.proofs.Buffers.{front_is}
use Rattle.decimals.specs.Decimals.{members_between}
use Rattle.decimals.proofs.Texts.{text_members, no_error}
use Rattle.decimals.proofs.push_members.Goals as goal

pub unwrap-requires : goal.unwrap-requires
unwrap-requires g c =
    let b = c.as_bytes in
    let a = c.as_bytes-2 in
    let r = c.put_members-end in
    let whole = members_between b.result.now a.result.now c.args.s in
    let is = front_is whole _ _ r.result r.ensures.length r.ensures.bytes in
    let u = text_members b.result.now a.result.now b.ensures.utf8 a.ensures.utf8 c.args.s in
    no_error _ _ _ c.from_utf8.ensures.cases (λ e q. q.0 (subst IsUtf8 (sym is) u))
