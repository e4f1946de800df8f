-- The chain of theorems from the rules of a step to demand 3. Each file says in its first lines which part it is.

-- part 1, counting
pub mod Counting
-- keys, values, functions of keys
pub mod Updates
pub mod Ancestors
pub mod Records
-- part 3, the tree
pub mod Skeleton
pub mod OneKey
pub mod Tree
pub mod Moves
-- part 2, order and bookkeeping
pub mod History
pub mod Lane
-- refinement: from bytes to accepted steps
pub mod Slots
pub mod Caches
pub mod Tallies
pub mod Refines
pub mod RefineAdds
pub mod RefineEvicts
pub mod RefineAnswers
pub mod RefineEpochs
pub mod Stood
pub mod Messages
pub mod Opened
pub mod Replay
pub mod Settled
-- the theorem, and with which epoch an answer goes out
pub mod Demand3
pub mod RunOver
pub mod AnswerEpoch
