pub mod PlaceLemmas
pub mod FirstIndex
pub mod WittenLaw
pub mod NorburyLaw
