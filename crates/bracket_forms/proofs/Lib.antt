mod Steps
mod TextFacts
