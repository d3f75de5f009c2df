use Rattle.fill_crew.proofs.Lows.{takes, pops}
use Rattle.fill_crew.proofs.deques.find.Goals as goal

pub pop_as-requires-clause-fifo : goal.pop_as-requires-clause-fifo
pop_as-requires-clause-fifo g c = λ _. takes g.L.Limit.limit _ tt 1

pub pop_as-requires-clause-lifo : goal.pop_as-requires-clause-lifo
pop_as-requires-clause-lifo g c = λ _. pops g.L.Limit.limit _ tt

pub steal_as-requires-clause-takes : goal.steal_as-requires-clause-takes
steal_as-requires-clause-takes g c = takes g.L.Limit.limit _ tt 1
