use Rattle.std.proofs.Common.{refl, arith}
use Rattle.rebuild.proofs.Building.{build_none, build_split, closable, build_close, build_start, build_end}
use Rattle.rebuild.proofs.build.build.Goals as goal

pub loop-task-init : goal.loop-task-init
loop-task-init g c = λ list long labelled. build_start c.requires.small labelled (rw c.push.ensures (rw c.new-tasks.ensures refl))

pub loop-task-preserved-in-Build-default-eq0 : goal.loop-task-preserved-in-Build-default-eq0
loop-task-preserved-in-Build-default-eq0 g c = λ list long labelled.
    let none = rw c.in-Build-default-eq0.is at c.in-Build-default-eq0.count-test in
    build_none (c.loop-task.invariant list long labelled) _ _ c.in-Some.ensures _ _ c.in-Build-default-eq0.is none

pub loop-task-preserved-in-Build : goal.loop-task-preserved-in-Build
loop-task-preserved-in-Build g c = λ list long labelled.
    let some = rw c.in-Build.is at c.in-Build.count-test in
    build_split (c.loop-task.invariant list long labelled) _ _ c.in-Some.ensures _ _ c.in-Build.is (omega arith) c.split.ensures

pub close-requires : goal.close-requires
close-requires g c =
    let p = c.requires in
    closable (c.loop-task.invariant p.list p.long p.labelled) _ _ c.in-Some.ensures _ _ c.in-Close.is p.long p.small

pub loop-task-preserved : goal.loop-task-preserved
loop-task-preserved g c = λ list long labelled.
    build_close (c.loop-task.invariant list long labelled) _ _ c.in-Some.ensures _ _ c.in-Close.is long c.requires.once c.close.ensures

pub returns : goal.returns
returns g c = λ list long labelled. build_end (c.loop-task.invariant list long labelled) c.in_default.ensures.0 long c.root_of.ensures
