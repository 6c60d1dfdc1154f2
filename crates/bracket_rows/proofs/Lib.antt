pub mod WhatIsMet
pub mod InOrder
pub mod Kept
pub mod Plain
pub mod Written
