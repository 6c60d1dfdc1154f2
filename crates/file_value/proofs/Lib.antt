pub mod NoReads
