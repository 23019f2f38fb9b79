mod Leads
mod Outcomes
mod Standing
