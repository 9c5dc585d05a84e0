use Rattle.scatter_move.proofs.move_i32.Goals as goal

pub returns-in-Add : goal.returns-in-Add
returns-in-Add c = rw c.in-Add.is c.move_by.ensures

pub returns-in-Lowest : goal.returns-in-Lowest
returns-in-Lowest c = rw c.in-Lowest.is c.move_by-in-Lowest.ensures

pub returns-in-Highest : goal.returns-in-Highest
returns-in-Highest c = rw c.in-Highest.is c.move_by-in-Highest.ensures

pub returns-in-Replace : goal.returns-in-Replace
returns-in-Replace c = rw c.in-Replace.is c.move_by-in-Replace.ensures
