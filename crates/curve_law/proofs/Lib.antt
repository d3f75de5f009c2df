pub mod TableLaw
