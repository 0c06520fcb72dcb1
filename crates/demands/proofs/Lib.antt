-- Read TheSentence first: the sentence of the release note, and the value and the bytes behind it, said of the
-- functions that run. Sentences has the other headline sentences, Contracts what each public function promises, and
-- Exports what each function of the library for other languages does. Then the demands, sentence by sentence: Demand1,
-- Demand2 and Demand3; the plain engine of request N1: Plain; the writer of request N3: Saving; SSS* within an
-- allowance (request N6): Allowance; capital letters (request N7): Capitals; tables without a second capture (request
-- N8): Alternating; grafts (request N9): Grafting; a leaf's value for a wanted root value (request N10): LeastValue;
-- the worst-case filling (request N11): WorstFill; least counts (request N12): LeastCounts; the shorter of two
-- certificates (request N13): Shorter; the lists of leaves (request N14): Order; and what no request asks for: MTD(f),
-- in Mtdf, and the best line of play, in Variation. The other files carry the theory's theorems to calls over byte
-- tables; what is proved of calls is said of the functions that run in the files above.
pub mod TheSentence
pub mod Sentences
pub mod Contracts
pub mod Exports
mod Running
mod LentBytes
mod Parts
mod Views
mod Handed
mod Local
mod Allowed
mod Listing
mod Numbers
mod PlainCalls
mod FilledCosts
mod Deeper
mod Fewest
mod AlternatingCalls
pub mod Demand1
pub mod Demand2
pub mod Demand3
pub mod Plain
pub mod Saving
pub mod Allowance
pub mod Capitals
pub mod Alternating
pub mod Grafting
pub mod LeastValue
pub mod WorstFill
pub mod LeastCounts
pub mod Shorter
pub mod Order
pub mod Mtdf
pub mod Variation
pub mod Cases
mod Tests
mod RegularTests
